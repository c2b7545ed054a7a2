use Rattle.fib_entries_rows.specs.inner.Edges.{AreEdgesOf}
use Rattle.fib_entries_rows.proofs.edges.edges_of.Given as goal

abbrev pub invariant-loop-from : goal.invariant-loop-from
invariant-loop-from l = AreEdgesOf l.meaning l.order l.from l.out.items
