use Rattle.std.proofs.Common.{◌-◌, ◌<◌, ◌≤◌, length, get_or}
use Rattle.fib_base_ordered.proofs.block.count_below.Given as goal

abbrev pub invariant-loop-low : goal.invariant-loop-low
invariant-loop-low g l = record {
  order : (l.low ≤ l.high) × (l.high ≤ length l.items);
  below : (d : g.row.T.Denot) → 0 < l.low → g.T.Keyed.rank (get_or l.items (l.low - 1) d) < l.key;
  above : (d : g.row.T.Denot) → l.high < length l.items → l.key ≤ g.T.Keyed.rank (get_or l.items l.high d);
}

abbrev pub decreases-loop-low : goal.decreases-loop-low
decreases-loop-low g l = l.high - l.low
