use Rattle.std.proofs.Common.{take}
use Rattle.fib_follow_plan.specs.inner.Ends.{AreEndsAmong, is_held}
use Rattle.fib_follow_plan.proofs.ends.held_among.Given as goal

abbrev pub invariant-ends : goal.invariant-ends
invariant-ends l = AreEndsAmong (is_held l.view l.features) (take l.place l.ends) l.held.keys
