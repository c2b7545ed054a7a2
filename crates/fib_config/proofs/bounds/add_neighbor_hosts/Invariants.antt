use Rattle.std.proofs.Common.{◌≡◌, ◌++◌, map, take}
use Rattle.fib_config.specs.inner.Bounds.{host_of}
use Rattle.fib_config.proofs.bounds.add_neighbor_hosts.Given as goal

abbrev pub invariant-loop-place : goal.invariant-loop-place
invariant-loop-place l = l.out.items ≡ l.fn.out.items ++ map host_of (take l.place l.neighbors)
