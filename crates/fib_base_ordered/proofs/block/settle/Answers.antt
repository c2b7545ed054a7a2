use Rattle.std.proofs.Common.{◌+◌, length, arith, sym, ap, ◌∙◌}
use Rattle.fib_base_ordered.proofs.Rows.{row_get, next_before, next_after, settled_next, settled_same}
use Rattle.fib_base_ordered.proofs.Changes.{all_some}
use Rattle.fib_base_ordered.specs.inner.Blocks.{items_of}
use Rattle.fib_base_ordered.proofs.block.settle.Goals as goal
use Rattle.fib_base_ordered.proofs.block.settle.Goals.{else-place-row-via-then-place-row+else-place-blocks, else-place-row-via-else-place-row}

pub returns-then-place-blocks-clause-before : goal.returns-then-place-blocks-clause-before
returns-then-place-blocks-clause-before g c =
    let same = row_get items_of c.args.blocks.now c.args.place.block c.index-blocks-place.result (omega arith) ∙ sym c.as_slice-row.ensures.value in
    next_before items_of c.args.blocks.now c.args.place.block c.args.place.slot (omega arith) (omega (arith, ap length same))

pub returns-then-place-blocks-clause-after : goal.returns-then-place-blocks-clause-after
returns-then-place-blocks-clause-after g c =
    let same = row_get items_of c.args.blocks.now c.args.place.block c.index-blocks-place.result (omega arith) ∙ sym c.as_slice-row.ensures.value in
    next_after items_of c.args.blocks.now c.args.place.block c.args.place.slot (omega arith) (omega (arith, ap length same))

pub returns-then-place-blocks-clause-settled : goal.returns-then-place-blocks-clause-settled
returns-then-place-blocks-clause-settled g c = settled_next items_of c.args.blocks.now (c.args.place.block + 1) (omega arith) (all_some _ c.requires.full)

pub returns-clause-settled : goal.returns-clause-settled
returns-clause-settled g c =
    let same = row_get items_of c.args.blocks.now c.args.place.block c.index-blocks-place.result c.requires.inside ∙ sym c.as_slice-row.ensures.value in
    settled_same items_of c.args.blocks.now c.args.place.block c.args.place.slot c.requires.slot
    (λ e less. elim c.else-place-row.branch [
      | else-place-row-via-then-place-row+else-place-blocks w ↦ absurd (omega (arith, less, w.if-place-blocks.false))
      | else-place-row-via-else-place-row w ↦ absurd (w.if-place-row.false (omega (arith, ap length same)))
    ])
