use Rattle.trial_plain.specs.Seats.{IsHeld, seats_in}
use Rattle.test_cases.proofs.passing.beneath.Given as goal

abbrev pub invariant-loop-change : goal.invariant-loop-change
invariant-loop-change l = IsHeld 1 l.end (seats_in l.control)
