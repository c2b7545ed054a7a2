use Rattle.std.proofs.Common.{◌≡◌, ◌++◌, take}
use Rattle.std.specs.Prelude.{flat_map}
use Rattle.fib_resolve.specs.Pairs.{neighbor_pairs}
use Rattle.fib_resolve_pairs.proofs.effective.add_neighbors.Given as goal

abbrev pub invariant-loop-place : goal.invariant-loop-place
invariant-loop-place l = l.out.items ≡ l.fn.out.items ++ flat_map (neighbor_pairs l.covers) (take l.place l.neighbors)
