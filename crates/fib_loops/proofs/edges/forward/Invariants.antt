use Rattle.fib_loops.specs.inner.Entering.{Joins}
use Rattle.std.proofs.Common.{take}
use Rattle.fib_loops.proofs.edges.forward.Given as goal

abbrev pub invariant-loop-from : goal.invariant-loop-from
invariant-loop-from l = Joins l.graph l.nodes (take l.from-index l.edges)
