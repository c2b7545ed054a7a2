use Rattle.fib_entries_rows.proofs.Ranking.{AreRanked}
use Rattle.fib_entries_rows.proofs.ranks.ranks.Given as goal

abbrev pub invariant-loop-place : goal.invariant-loop-place
invariant-loop-place l = AreRanked l.base l.order l.out.items l.nodes l.place
