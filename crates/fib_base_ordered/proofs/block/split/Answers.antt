use Rattle.std.proofs.Common.{◌≡◌, ◌<◌, ◌≤◌, ◌++◌, length, take, drop, arith, sym, ap, subst, ◌∙◌}
use Rattle.std.specs.Prelude.{flat_map, vec_capacity, min, ◌-◌}
use Rattle.std.specs.List.{AllByRecursion}
use Rattle.std.proofs.lemmas.List.{length-take, length-drop, take_rest}
use Rattle.fib_base_ordered.specs.inner.Blocks.{items_of, IsFilled}
use Rattle.fib_base_ordered.proofs.Rows.{row_get}
use Rattle.fib_base_ordered.proofs.Changes.{flat_split, split_filled, wide_is, last_idle}
use Rattle.fib_base_ordered.specs.inner.Blocks.{cost}
use Rattle.fib_base_ordered.proofs.Spans.{split_cost}
use Rattle.fib_base_ordered.proofs.block.split.Goals as goal

pub returns-clause-members : goal.returns-clause-members
returns-clause-members g c =
    let same = row_get items_of c.args.blocks.now.items c.args.at c.index_mut.result.now c.requires.inside ∙ ap items_of (sym c.index_mut.ensures.value) in
    let idle = last_idle c.args.idle.now.items c.pop.new.self.items c.in-Some.upper c.in-Some.ensures.items c.requires.idle in
    let tail = take_rest c.deref.result.now 32 ∙ ap (drop 32) c.deref.ensures.value in
    let upper = c.in-Ok.ensures.items ∙ ap (λ l. l ++ take (length c.deref.result.now - 32) (drop 32 c.deref.result.now)) idle.empty ∙ tail in
    ap (flat_map items_of) c.in-Ok-insert.ensures.items
    ∙ flat_split c.args.blocks.now.items c.args.at 32 (record { items = c.truncate.new.self }) (record { items = c.extend_from_slice.new.self }) c.requires.inside
    (c.truncate.ensures.items ∙ ap (take 32) (sym same)) (upper ∙ ap (drop 32) (sym same))

pub returns-clause-filled : goal.returns-clause-filled
returns-clause-filled g c =
    let is = wide_is c.args.blocks.now.items c.args.at c.index_mut.result.now c.requires.inside c.requires.wide c.index_mut.ensures.value in
    let same = row_get items_of c.args.blocks.now.items c.args.at c.index_mut.result.now c.requires.inside ∙ ap items_of (sym c.index_mut.ensures.value) in
    let idle = last_idle c.args.idle.now.items c.pop.new.self.items c.in-Some.upper c.in-Some.ensures.items c.requires.idle in
    let tail = take_rest c.deref.result.now 32 ∙ ap (drop 32) c.deref.ensures.value in
    let upper = c.in-Ok.ensures.items ∙ ap (λ l. l ++ take (length c.deref.result.now - 32) (drop 32 c.deref.result.now)) idle.empty ∙ tail in
    let wide = c.requires.wide in
    let long : 32 < length c.index_mut.result.now.items.items = subst (λ l. 32 < length l) same c.requires.long in
    let few : length c.index_mut.result.now.items.items ≤ 65 = subst (λ b. length (items_of b) ≤ 65) (sym is) wide.few in
    let roomy : 65 ≤ vec_capacity c.index_mut.result.now.items = subst (λ b. 65 ≤ vec_capacity b.items) (sym is) wide.roomy in
    let low : length c.truncate.new.self.items ≡ min 32 (length c.index_mut.result.now.items.items) = ap length c.truncate.ensures.items ∙ length-take 32 c.index_mut.result.now.items.items in
    let high : length c.extend_from_slice.new.self.items ≡ length c.index_mut.result.now.items.items - 32 = ap length upper ∙ length-drop 32 c.index_mut.result.now.items.items in
    subst (AllByRecursion IsFilled) (sym c.in-Ok-insert.ensures.items)
    (split_filled c.args.blocks.now.items c.args.at (record { items = c.truncate.new.self }) (record { items = c.extend_from_slice.new.self }) c.requires.inside wide
    (record { some = omega arith; few = omega arith; roomy = omega (arith, c.truncate.ensures.capacity) })
    (record { some = omega arith; few = omega arith; roomy = omega (arith, idle.roomy, c.in-Ok.ensures.capacity) }))

pub returns-clause-cost : goal.returns-clause-cost
returns-clause-cost g c = λ more.
    let same = row_get items_of c.args.blocks.now.items c.args.at c.index_mut.result.now c.requires.inside ∙ ap items_of (sym c.index_mut.ensures.value) in
    let idle = last_idle c.args.idle.now.items c.pop.new.self.items c.in-Some.upper c.in-Some.ensures.items c.requires.idle in
    let tail = take_rest c.deref.result.now 32 ∙ ap (drop 32) c.deref.ensures.value in
    let upper = c.in-Ok.ensures.items ∙ ap (λ l. l ++ take (length c.deref.result.now - 32) (drop 32 c.deref.result.now)) idle.empty ∙ tail in
    let long : 64 < length c.index_mut.result.now.items.items = subst (λ l. 64 < length l) same more in
    let low : length c.truncate.new.self.items ≡ min 32 (length c.index_mut.result.now.items.items) = ap length c.truncate.ensures.items ∙ length-take 32 c.index_mut.result.now.items.items in
    let high : length c.extend_from_slice.new.self.items ≡ length c.index_mut.result.now.items.items - 32 = ap length upper ∙ length-drop 32 c.index_mut.result.now.items.items in
    subst (λ l. cost l ≤ cost c.args.blocks.now.items) (sym c.in-Ok-insert.ensures.items)
    (split_cost c.args.blocks.now.items c.args.at (record { items = c.truncate.new.self }) c.index_mut.result.now c.requires.inside c.index_mut.ensures.value (record { items = c.extend_from_slice.new.self }) long (omega (arith, low, long)) high)
