use Rattle.fib_entries_rows.specs.inner.Building.{AreRows}
use Rattle.fib_entries_rows.proofs.whole.rows_of.Given as goal

abbrev pub invariant-loop-place : goal.invariant-loop-place
invariant-loop-place l = AreRows l.parts.lists.now l.parts.meaning.now l.order l.ranks l.place l.out.items
