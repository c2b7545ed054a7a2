use Rattle.std.proofs.Common.{[], take}
use Rattle.fib_follow_looked.specs.inner.Adding.{AddsEach}
use Rattle.fib_follow_looked.specs.inner.Naming.{leads}
use Rattle.fib_follow_looked.proofs.named.hops_led.Given as goal

abbrev pub invariant-changes : goal.invariant-changes
invariant-changes l = AddsEach (leads l.after.tables) (take l.place l.changes) [] l.set
