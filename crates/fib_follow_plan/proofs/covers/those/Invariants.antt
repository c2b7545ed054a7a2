use Rattle.std.proofs.Common.{[], take}
use Rattle.fib_follow_looked.specs.inner.Adding.{AddsEach}
use Rattle.fib_follow_plan.specs.inner.Telling.{has_so}
use Rattle.fib_follow_plan.proofs.covers.those.Given as goal

abbrev pub invariant-changed : goal.invariant-changed
invariant-changed l = AddsEach (has_so l.is) (take l.place l.changed) [] l.set
