use Rattle.fib_follow_part.proofs.Searching.{SeesSteps}
use Rattle.fib_follow_part.proofs.seen.see_all.Given as goal

abbrev pub invariant-steps : goal.invariant-steps
invariant-steps l = SeesSteps l.view l.place l.fn.seen l.seen
