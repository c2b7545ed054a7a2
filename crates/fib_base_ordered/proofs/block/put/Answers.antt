use Rattle.std.proofs.Common.{◌≡◌, ◌+◌, length, arith, sym, ap, subst, ◌∙◌}
use Rattle.std.specs.Prelude.{insert}
use Rattle.std.proofs.lemmas.List.Edits.{length-insert}
use Rattle.fib_base_ordered.specs.inner.Blocks.{items_of, IsFilled}
use Rattle.fib_base_ordered.proofs.Rows.{row_get}
use Rattle.fib_base_ordered.proofs.Changes.{filled_at, flat_put, wide_set}
use Rattle.fib_base_ordered.proofs.Spans.{put_cost}
use Rattle.fib_base_ordered.proofs.block.put.Goals as goal

pub returns-clause-members : goal.returns-clause-members
returns-clause-members g c =
    let same = row_get items_of c.args.blocks.now.items c.args.place.block c.index_mut.result.now c.requires.inside ∙ ap items_of (sym c.index_mut.ensures.value) in
    flat_put c.args.blocks.now.items (record { items = c.insert.new.self }) c.args.place.block c.args.place.slot c.args.member c.requires.inside (c.in-Ok.ensures.items ∙ ap (λ r. insert r c.args.place.slot c.args.member) (sym same))

pub returns-clause-wide : goal.returns-clause-wide
returns-clause-wide g c =
    let same = row_get items_of c.args.blocks.now.items c.args.place.block c.index_mut.result.now c.requires.inside ∙ ap items_of (sym c.index_mut.ensures.value) in
    let was = subst IsFilled (sym c.index_mut.ensures.value) (filled_at c.args.blocks.now.items c.args.place.block c.index_mut.result.now c.requires.inside c.requires.filled) in
    let long : length c.insert.new.self.items ≡ length c.index_mut.result.now.items.items + 1 = ap length c.in-Ok.ensures.items ∙ length-insert c.index_mut.result.now.items.items c.args.place.slot c.args.member (omega (arith, ap length same, c.requires.slot)) in
    wide_set c.args.blocks.now.items c.args.place.block (record { items = c.insert.new.self }) c.requires.inside c.requires.filled (omega arith) (omega (arith, was.few)) (omega (arith, was.roomy, c.in-Ok.ensures.capacity))

pub returns-clause-cost : goal.returns-clause-cost
returns-clause-cost g c =
    let same = row_get items_of c.args.blocks.now.items c.args.place.block c.index_mut.result.now c.requires.inside ∙ ap items_of (sym c.index_mut.ensures.value) in
    put_cost c.args.blocks.now.items c.args.place.block (record { items = c.insert.new.self }) c.index_mut.result.now c.requires.inside c.index_mut.ensures.value
    (ap length c.in-Ok.ensures.items ∙ length-insert c.index_mut.result.now.items.items c.args.place.slot c.args.member (omega (arith, ap length same, c.requires.slot)))
