use Rattle.fib_loops.specs.inner.Entering.{JoinsBack}
use Rattle.std.proofs.Common.{take}
use Rattle.fib_loops.proofs.edges.backward.Given as goal

abbrev pub invariant-loop-from : goal.invariant-loop-from
invariant-loop-from l = JoinsBack l.graph l.nodes (take l.from-index l.edges)
