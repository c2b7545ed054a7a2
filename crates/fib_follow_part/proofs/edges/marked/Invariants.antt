use Rattle.fib_entries_rows.specs.inner.Looping.{AreMarkedEnds}
use Rattle.fib_follow_part.proofs.edges.marked.Given as goal

abbrev pub invariant-edges : goal.invariant-edges
invariant-edges l = AreMarkedEnds l.order l.edges l.marks.looped l.k l.held.keys
