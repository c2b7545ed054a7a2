use Rattle.std.proofs.Common.{◌-◌, ◌<◌, ◌≤◌, length}
use Rattle.std.specs.Prelude.{slice_index}
use Rattle.fib_base_blocks.proofs.layout.block_of.Given as goal

abbrev pub invariant-loop-high : goal.invariant-loop-high
invariant-loop-high l = record {
  order : (l.low < l.high) × (l.high ≤ length l.starts);
  low : slice_index l.starts l.low ≤ l.place;
  high : l.high < length l.starts → l.place < slice_index l.starts l.high;
}

abbrev pub decreases-loop-high : goal.decreases-loop-high
decreases-loop-high l = l.high - l.low
