use Rattle.std.proofs.Common.{◌≡◌}
use Rattle.trial_plain.specs.Seats.{seats_in}
use Rattle.trial_plain.proofs.refused.turns_again.Given as goal

abbrev pub invariant-loop-count : goal.invariant-loop-count
invariant-loop-count l = seats_in l.control ≡ seats_in l.initial.control
