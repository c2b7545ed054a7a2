use Rattle.fib_entries_rows.specs.inner.Looping.{AreEdgesAmong}
use Rattle.fib_follow_view.specs.inner.Told.{next_in}
use Rattle.fib_follow_part.specs.inner.Searched.{AreLeaving}
use Rattle.fib_follow_part.proofs.edges.edges_of.Given as goal

abbrev pub invariant-order : goal.invariant-order
invariant-order l = AreEdgesAmong (next_in l.view) l.order l.from l.edges.items × AreLeaving (next_in l.view) l.order l.from l.out.items
