use Rattle.fib_resolve_pairs.specs.inner.Edges.{AreMarked}
use Rattle.fib_resolve_pairs.proofs.loops.marked.Given as goal

abbrev pub invariant-loop-k : goal.invariant-loop-k
invariant-loop-k l = AreMarked l.edges l.marks.looped l.k l.looped.keys
