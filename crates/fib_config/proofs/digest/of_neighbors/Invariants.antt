use Rattle.std.proofs.Common.{take}
use Rattle.fib_config.specs.inner.Digest.{AreKeys, neighbor_key}
use Rattle.fib_config.proofs.digest.of_neighbors.Given as goal

abbrev pub invariant-loop-place : goal.invariant-loop-place
invariant-loop-place l = AreKeys neighbor_key (take l.place l.neighbors) l.keys
