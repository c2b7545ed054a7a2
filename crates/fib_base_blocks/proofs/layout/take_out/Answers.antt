use Rattle.std.proofs.Common.{arith, ◌≡◌, ◌+◌, ◌-◌, ◌<◌, [], set, length, sym, ◌∙◌, ap, subst}
use Rattle.std.specs.Prelude.{flat_map}
use Rattle.std.specs.List.{remove}
use Rattle.std.proofs.lemmas.List.{length-set}
use Rattle.std.proofs.lemmas.Grind.{common_steps}
use Rattle.fib_base_blocks.specs.inner.Layout.{AreBlocks, items_of}
use Rattle.fib_base_blocks.proofs.Laid.{laid_long, laid_high, row_is, row_set, less_laid, gone_laid}
use Rattle.fib_base_blocks.proofs.Starts.{changed_long}
use Rattle.fib_base_blocks.proofs.Edits.{list_get, list_out, list_gone}
use Rattle.fib_base_blocks.proofs.layout.take_out.Goals as goal

pub lower-requires-clause-high : goal.lower-requires-clause-high
lower-requires-clause-high g c = λ k le lt.
    let less = c.requires.there.1.within c.requires.there.2 in
    laid_high c.args.blocks.now.items c.args.starts.now.items c.args.at.block k 0 c.requires.laid (omega arith) lt (omega (arith, less))

pub lower-requires-clause-from : goal.lower-requires-clause-from
lower-requires-clause-from g c = omega (arith, laid_long c.args.blocks.now.items c.args.starts.now.items c.requires.laid, c.requires.there.1.inside)

pub remove-requires-then-empty : goal.remove-requires-then-empty
remove-requires-then-empty g c =
    let long = ap length c.lower.ensures ∙ changed_long (λ n. n - 1) (c.args.at.block + 1) (length c.args.starts.now.items) c.args.starts.now.items in
    omega (arith, long, c.lower.new.starts.ok.0, laid_long c.args.blocks.now.items c.args.starts.now.items c.requires.laid, c.requires.there.1.inside)

pub returns-then-empty-clause-list : goal.returns-then-empty-clause-list
returns-then-empty-clause-list g c = λ place at lt.
    let bs = c.args.blocks.now.items in
    let b = c.remove-element.new.self in
    let same = row_is bs c.args.at.block c.index_mut-row.result.now at.inside c.index_mut-row.ensures.value in
    let out = c.remove-element.ensures.items ∙ ap (λ l. remove l c.args.at.slot) (sym same) in
    let empty : c.remove-element.new.self.items ≡ [] = grind (arith, common_steps) in
    ap (flat_map items_of) c.remove.ensures.items
    ∙ (list_gone items_of (set bs c.args.at.block b) c.args.at.block (omega (arith, at.inside, length-set bs c.args.at.block b)) (row_set bs c.args.at.block b at.inside ∙ empty)
    ∙ list_out items_of bs c.args.at.block c.args.at.slot place b at.inside at.place (at.within lt) out)

pub returns-then-empty-clause-element : goal.returns-then-empty-clause-element
returns-then-empty-clause-element g c = λ place at lt.
    c.remove-element.ensures.value ∙ sym (list_get items_of c.args.blocks.now.items c.args.at.block c.args.at.slot place c.index_mut-row.result.now c.remove-element.result at.inside at.place (at.within lt) c.index_mut-row.ensures.value)

pub returns-then-empty-clause-laid : goal.returns-then-empty-clause-laid
returns-then-empty-clause-laid g c =
    let bs = c.args.blocks.now.items in
    let b = c.remove-element.new.self in
    let at = c.requires.there.1 in
    let same = row_is bs c.args.at.block c.index_mut-row.result.now at.inside c.index_mut-row.ensures.value in
    let out = c.remove-element.ensures.items ∙ ap (λ l. remove l c.args.at.slot) (sym same) in
    let empty : c.remove-element.new.self.items ≡ [] = grind (arith, common_steps) in
    let starts = c.remove-then-empty.ensures.items ∙ ap (λ l. remove l c.args.at.block) c.lower.ensures in
    subst (λ l. AreBlocks l c.remove-then-empty.new.self.items) (sym c.remove.ensures.items) (subst (AreBlocks (remove (set bs c.args.at.block b) c.args.at.block)) (sym starts)
    (gone_laid bs c.args.starts.now.items c.args.at.block c.requires.laid at.inside b c.args.at.slot out (at.within c.requires.there.2) (row_set bs c.args.at.block b at.inside ∙ empty)))

pub returns-else-empty-clause-list : goal.returns-else-empty-clause-list
returns-else-empty-clause-list g c = λ place at lt.
    let bs = c.args.blocks.now.items in
    let same = row_is bs c.args.at.block c.index_mut-row.result.now at.inside c.index_mut-row.ensures.value in
    let out = c.remove-element.ensures.items ∙ ap (λ l. remove l c.args.at.slot) (sym same) in
    list_out items_of bs c.args.at.block c.args.at.slot place c.remove-element.new.self at.inside at.place (at.within lt) out

pub returns-else-empty-clause-element : goal.returns-else-empty-clause-element
returns-else-empty-clause-element g c = λ place at lt.
    c.remove-element.ensures.value ∙ sym (list_get items_of c.args.blocks.now.items c.args.at.block c.args.at.slot place c.index_mut-row.result.now c.remove-element.result at.inside at.place (at.within lt) c.index_mut-row.ensures.value)

pub returns-else-empty-clause-laid : goal.returns-else-empty-clause-laid
returns-else-empty-clause-laid g c =
    let bs = c.args.blocks.now.items in
    let b = c.remove-element.new.self in
    let at = c.requires.there.1 in
    let same = row_is bs c.args.at.block c.index_mut-row.result.now at.inside c.index_mut-row.ensures.value in
    let out = c.remove-element.ensures.items ∙ ap (λ l. remove l c.args.at.slot) (sym same) in
    let some : 0 < length b.items = grind (arith, common_steps) in
    subst (AreBlocks (set bs c.args.at.block b)) (sym c.lower.ensures)
    (less_laid bs c.args.starts.now.items c.args.at.block c.requires.laid at.inside b c.args.at.slot out (at.within c.requires.there.2) some)
