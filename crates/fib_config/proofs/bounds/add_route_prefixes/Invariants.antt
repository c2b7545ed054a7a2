use Rattle.std.proofs.Common.{◌≡◌, ◌++◌, map, take}
use Rattle.fib_config.specs.inner.Bounds.{prefix_of_route}
use Rattle.fib_config.proofs.bounds.add_route_prefixes.Given as goal

abbrev pub invariant-loop-place : goal.invariant-loop-place
invariant-loop-place l = l.out.items ≡ l.fn.out.items ++ map prefix_of_route (take l.place l.routes)
