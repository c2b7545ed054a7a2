use Rattle.std.proofs.Common.{take}
use Rattle.fib_follow_looked.specs.inner.Adding.{AddsEach}
use Rattle.fib_addr.specs.Prefixes.{same_prefix}
use Rattle.fib_follow_looked.proofs.sets.add_all.Given as goal

abbrev pub invariant-list : goal.invariant-list
invariant-list l = AddsEach (λ y q. same_prefix q y) (take l.place l.list) l.fn.set l.set
