use Rattle.std.proofs.Common.{◌≡◌, ◌++◌, map, take}
use Rattle.fib_config.specs.inner.Bounds.{neighbor_end}
use Rattle.fib_config.proofs.bounds.add_neighbor_ends.Given as goal

abbrev pub invariant-loop-place : goal.invariant-loop-place
invariant-loop-place l = l.out.items ≡ l.fn.out.items ++ map neighbor_end (take l.place l.neighbors)
