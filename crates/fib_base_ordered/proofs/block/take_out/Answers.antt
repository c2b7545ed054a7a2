use Rattle.std.proofs.Common.{◌≡◌, ◌≤◌, [], set, length, subst, arith, sym, ap, ◌∙◌}
use Rattle.std.specs.Prelude.{flat_map, remove}
use Rattle.std.proofs.lemmas.List.{length-set}
use Rattle.fib_base_ordered.specs.inner.Blocks.{items_of}
use Rattle.fib_base_ordered.proofs.Rows.{row_get}
use Rattle.fib_base_ordered.proofs.Changes.{flat_out, flat_remove, row_set}
use Rattle.std.proofs.lemmas.Grind.{common_steps}
use Rattle.fib_base_ordered.specs.inner.Blocks.{cost}
use Rattle.fib_base_ordered.proofs.Spans.{out_cost, remove_cost}
use Rattle.fib_base_ordered.proofs.block.take_out.Goals as goal

pub returns-then-is_empty-clause-members : goal.returns-then-is_empty-clause-members
returns-then-is_empty-clause-members g c =
    let same = row_get items_of c.args.blocks.now.items c.args.place.block c.index_mut.result.now c.requires.inside ∙ ap items_of (sym c.index_mut.ensures.value) in
    let empty : c.remove.new.self.items ≡ [] = grind (arith, common_steps) in
    ap (flat_map items_of) c.remove-block.ensures.items
    ∙ flat_remove (set c.args.blocks.now.items c.args.place.block (record { items = c.remove.new.self })) c.args.place.block (omega (arith, c.requires.inside, length-set c.args.blocks.now.items c.args.place.block (record { items = c.remove.new.self }))) (row_set c.args.blocks.now.items c.args.place.block (record { items = c.remove.new.self }) c.requires.inside ∙ empty)
    ∙ flat_out c.args.blocks.now.items (record { items = c.remove.new.self }) c.args.place.block c.args.place.slot c.requires.inside c.requires.slot (c.remove.ensures.items ∙ ap (λ r. remove r c.args.place.slot) (sym same))

pub returns-else-is_empty-clause-members : goal.returns-else-is_empty-clause-members
returns-else-is_empty-clause-members g c =
    let same = row_get items_of c.args.blocks.now.items c.args.place.block c.index_mut.result.now c.requires.inside ∙ ap items_of (sym c.index_mut.ensures.value) in
    flat_out c.args.blocks.now.items (record { items = c.remove.new.self }) c.args.place.block c.args.place.slot c.requires.inside c.requires.slot (c.remove.ensures.items ∙ ap (λ r. remove r c.args.place.slot) (sym same))

pub returns-then-is_empty-clause-cost : goal.returns-then-is_empty-clause-cost
returns-then-is_empty-clause-cost g c =
    let empty : c.remove.new.self.items ≡ [] = grind (arith, common_steps) in
    let none = ap length empty in
    subst (λ l. cost l ≤ cost c.args.blocks.now.items) (sym c.remove-block.ensures.items)
    (remove_cost c.args.blocks.now.items c.args.place.block (record { items = c.remove.new.self }) c.index_mut.result.now c.requires.inside c.index_mut.ensures.value (omega (arith, none)))

pub returns-else-is_empty-clause-cost : goal.returns-else-is_empty-clause-cost
returns-else-is_empty-clause-cost g c =
    out_cost c.args.blocks.now.items c.args.place.block (record { items = c.remove.new.self }) c.index_mut.result.now c.requires.inside c.index_mut.ensures.value (omega (arith, c.remove.ensures.len))
