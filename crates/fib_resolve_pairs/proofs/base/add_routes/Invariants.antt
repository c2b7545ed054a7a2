use Rattle.std.proofs.Common.{◌≡◌, ◌++◌, take, map}
use Rattle.fib_resolve.specs.Pairs.{route_pair}
use Rattle.fib_resolve_pairs.proofs.base.add_routes.Given as goal

abbrev pub invariant-loop-place : goal.invariant-loop-place
invariant-loop-place l = l.out.items ≡ l.fn.out.items ++ map route_pair (take l.place l.routes)
