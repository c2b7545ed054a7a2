use Rattle.std.proofs.Common.{◌≡◌, ◌-◌, ◌<◌, ◌≤◌, length, get_or}
use Rattle.std.specs.declared.cmp.Ordering.TheVariants.{Less, Greater}
use Rattle.fib_base_blocks.proofs.search.slot_for.Given as goal

abbrev pub invariant-loop-low : goal.invariant-loop-low
invariant-loop-low g l = record {
  order : (l.low ≤ l.high) × (l.high ≤ length l.items);
  low : (d : g.row.T.Denot) → 0 < l.low → g.S.Sought.order l.sought (get_or l.items (l.low - 1) d) ≡ Less;
  high : (d : g.row.T.Denot) → l.high < length l.items → g.S.Sought.order l.sought (get_or l.items l.high d) ≡ Greater;
}

abbrev pub decreases-loop-low : goal.decreases-loop-low
decreases-loop-low g l = l.high - l.low
