use Rattle.trial_plain.specs.Seats.{IsRested, seats_in}
use Rattle.test_cases.proofs.driven.drive_lines.Given as goal

abbrev pub invariant-loop-change : goal.invariant-loop-change
invariant-loop-change l = IsRested 0 (seats_in l.control)
