use Rattle.std.proofs.Common.{arith, sym, ◌∙◌}
use Rattle.fib_base_ordered.proofs.Cuts.{is_cut, edge}
use Rattle.fib_base_ordered.proofs.Rows.{row_get}
use Rattle.fib_base_ordered.proofs.Changes.{all_some}
use Rattle.fib_base_ordered.specs.inner.Blocks.{items_of}
use Rattle.fib_base_ordered.proofs.block.cut.Goals as goal

pub returns-clause-cut : goal.returns-clause-cut
returns-clause-cut g c =
    let same = row_get items_of c.args.blocks.now c.saturating_sub-block.result c.index-blocks-block.result (omega arith) ∙ sym c.as_slice.ensures.value in
    is_cut g.T.Keyed.rank items_of c.args.key c.args.blocks.now c.count_below-count.result c.saturating_sub-block.result c.count_below-slot.result c.requires.some c.requires.ordered (all_some _ c.requires.full) c.count_below-count.ensures.bound c.count_below-count.ensures.below c.count_below-count.ensures.above c.saturating_sub-block.ensures
    (rw same c.count_below-slot.ensures.bound) (rw same c.count_below-slot.ensures.below) (rw same c.count_below-slot.ensures.above)

pub returns-clause-edge : goal.returns-clause-edge
returns-clause-edge g c =
    let same = row_get items_of c.args.blocks.now c.saturating_sub-block.result c.index-blocks-block.result (omega arith) ∙ sym c.as_slice.ensures.value in
    edge g.T.Keyed.rank items_of c.args.key c.args.blocks.now c.count_below-count.result c.saturating_sub-block.result c.count_below-slot.result c.requires.some c.requires.ordered (all_some _ c.requires.full) c.count_below-count.ensures.bound c.count_below-count.ensures.below c.count_below-count.ensures.above c.saturating_sub-block.ensures
    (rw same c.count_below-slot.ensures.bound) (rw same c.count_below-slot.ensures.below) (rw same c.count_below-slot.ensures.above)
