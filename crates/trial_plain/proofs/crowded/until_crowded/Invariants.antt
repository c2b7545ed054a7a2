use Rattle.std.proofs.Common.{◌≡◌, []}
use Rattle.trial_plain.specs.Seats.{seats_in}
use Rattle.trial_plain.proofs.crowded.until_crowded.Given as goal

abbrev pub invariant-loop-place : goal.invariant-loop-place
invariant-loop-place l = record {
  seats : seats_in l.control ≡ seats_in l.initial.control;
  none : l.control.queue ≡ [];
}
