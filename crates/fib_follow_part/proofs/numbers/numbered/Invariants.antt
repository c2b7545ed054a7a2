use Rattle.fib_entries_rows.proofs.Ranking.{AreRanked}
use Rattle.fib_follow_part.proofs.numbers.numbered.Given as goal

abbrev pub invariant-loop-place : goal.invariant-loop-place
invariant-loop-place l = AreRanked 0 l.order l.out.items l.nodes l.place
