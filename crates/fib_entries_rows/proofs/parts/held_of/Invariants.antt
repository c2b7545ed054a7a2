use Rattle.fib_resolve.specs.Pairs.{pairs}
use Rattle.fib_entries_rows.specs.inner.Building.{ArePicked}
use Rattle.fib_entries_rows.proofs.parts.held_of.Given as goal

abbrev pub invariant-loop-rank : goal.invariant-loop-rank
invariant-loop-rank l = ArePicked l.prefix (pairs l.parts.meaning.now) l.parts.ids.now l.rank l.out
