use Rattle.std.proofs.Common.{drop}
use Rattle.fib_resolve_pairs.specs.inner.Meanings.{AreMacs}
use Rattle.fib_resolve_pairs.proofs.macs.macs.Given as goal

abbrev pub invariant-loop-place : goal.invariant-loop-place
invariant-loop-place l = AreMacs (drop l.place l.neighbors) l.macs
