use Rattle.std.proofs.Common.{◌≡◌}
use Rattle.trial_plain.specs.Seats.{seats_in}
use Rattle.test_cases.proofs.driven.work.Given as goal

abbrev pub invariant-loop-turn : goal.invariant-loop-turn
invariant-loop-turn l = seats_in l.control ≡ seats_in l.initial.control
