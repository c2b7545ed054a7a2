use Rattle.std.proofs.Common.{◌≡◌, ◌++◌, take}
use Rattle.std.specs.Prelude.{flat_map}
use Rattle.fib_config.specs.inner.Bounds.{route_ends}
use Rattle.fib_config.proofs.bounds.add_route_ends.Given as goal

abbrev pub invariant-loop-place : goal.invariant-loop-place
invariant-loop-place l = l.out.items ≡ l.fn.out.items ++ flat_map route_ends (take l.place l.routes)
