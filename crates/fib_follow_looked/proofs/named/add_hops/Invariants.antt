use Rattle.std.proofs.Common.{take}
use Rattle.fib_resolve.specs.Pairs.{recursive_of}
use Rattle.fib_follow_looked.specs.inner.Adding.{AddsEach}
use Rattle.fib_follow_looked.specs.inner.Naming.{is_hop}
use Rattle.fib_follow_looked.proofs.named.add_hops.Given as goal

abbrev pub invariant-paths : goal.invariant-paths
invariant-paths l = AddsEach (λ p. is_hop (recursive_of p)) (take l.place l.paths) l.fn.set l.set
