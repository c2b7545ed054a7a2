use Rattle.std.proofs.Common.{◌-◌, ◌<◌, ◌≤◌, length}
use Rattle.fib_base_blocks.specs.inner.Layout.{StartsPast, StartsWithin}
use Rattle.fib_base_blocks.proofs.search.block_for.Given as goal

abbrev pub invariant-loop-high : goal.invariant-loop-high
invariant-loop-high g l = record {
  order : (l.low < l.high) × (l.high ≤ length l.blocks);
  low : 0 < l.low → StartsWithin (g.S.Sought.order l.sought) l.blocks l.low;
  high : l.high < length l.blocks → StartsPast (g.S.Sought.order l.sought) l.blocks l.high;
}

abbrev pub decreases-loop-high : goal.decreases-loop-high
decreases-loop-high g l = l.high - l.low
