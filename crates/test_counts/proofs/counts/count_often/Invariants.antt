use Rattle.std.proofs.Common.{◌≡◌}
use Rattle.test_counts.proofs.counts.count_often.Given as goal

abbrev pub invariant-loop-time : goal.invariant-loop-time
invariant-loop-time l = record {
  id : l.seat.id ≡ l.fn.seat.id;
}
