use Rattle.std.proofs.Common.{◌≡◌, ◌≤◌, ◌++◌, length}
use Rattle.std.specs.Prelude.{flat_map, vec_capacity}
use Rattle.std.specs.Vec.Iter.{into_iter_items, into_iter_len}
use Rattle.fib_base_blocks.specs.inner.Layout.{items_of}
use Rattle.fib_base_blocks.proofs.spare.joined.Given as goal

-- what is joined and what is left are all elements
abbrev pub invariant-loop-block : goal.invariant-loop-block
invariant-loop-block g l = record {
  whole : l.all.items ++ flat_map items_of (into_iter_items l.block-iterator) ≡ flat_map items_of (into_iter_items l.initial.block-iterator);
  left : into_iter_len l.block-iterator ≡ length (into_iter_items l.block-iterator);
  room : vec_capacity l.fn.roomy ≤ vec_capacity l.all;
}
