use Rattle.std.proofs.Common.{◌≡◌}
use Rattle.trial_plain.specs.Seats.{seats_in}
use Rattle.trial_plain.proofs.refused.apply_each.Given as goal

abbrev pub invariant-loop-version : goal.invariant-loop-version
invariant-loop-version l = seats_in l.control ≡ seats_in l.initial.control
