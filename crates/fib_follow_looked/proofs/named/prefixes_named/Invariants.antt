use Rattle.std.proofs.Common.{[], take}
use Rattle.fib_follow_looked.specs.inner.Adding.{AddsEach}
use Rattle.fib_follow_looked.specs.inner.Naming.{names}
use Rattle.fib_follow_looked.proofs.named.prefixes_named.Given as goal

abbrev pub invariant-changes : goal.invariant-changes
invariant-changes l = AddsEach (names l.before l.after.tables) (take l.place l.changes) [] l.set
