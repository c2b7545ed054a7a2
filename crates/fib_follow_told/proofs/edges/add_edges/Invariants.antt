use Rattle.std.proofs.Common.{◌≡◌, ◌++◌, flat_map, take}
use Rattle.fib_follow_told.specs.inner.Gathered.{edge_beside}
use Rattle.fib_follow_told.proofs.edges.add_edges.Given as goal

abbrev pub invariant-targets : goal.invariant-targets
invariant-targets l = l.out ≡ l.fn.out ++ flat_map (edge_beside l.e l.others) (take l.place l.targets)
