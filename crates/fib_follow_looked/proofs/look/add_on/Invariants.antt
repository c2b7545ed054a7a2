use Rattle.std.proofs.Common.{take}
use Rattle.fib_follow_looked.specs.inner.Adding.{AddsEach}
use Rattle.fib_follow_looked.specs.inner.Turning.{is_near}
use Rattle.fib_follow_looked.proofs.look.add_on.Given as goal

abbrev pub invariant-neighbors : goal.invariant-neighbors
invariant-neighbors l = AddsEach (is_near l.interface) (take l.place l.neighbors) l.fn.set l.set
