use Rattle.std.proofs.Common.{arith, ◌<◌, sym, ◌∙◌, ap, subst}
use Rattle.std.specs.Prelude.{slice_set}
use Rattle.std.specs.List.{AllByRecursion, insert}
use Rattle.fib_base_blocks.specs.inner.Layout.{AreBlocks, items_of}
use Rattle.fib_base_blocks.proofs.Starts.{starts_low}
use Rattle.fib_base_blocks.proofs.Laid.{laid_long, row_is, more_laid}
use Rattle.fib_base_blocks.proofs.Edits.{list_put}
use Rattle.fib_base_blocks.proofs.layout.put_reserved.Goals as goal

pub raise-requires-clause-low : goal.raise-requires-clause-low
raise-requires-clause-low g c = subst (AllByRecursion (λ n. n < 18446744073709551615)) (sym c.requires.laid.starts) (starts_low items_of 0 18446744073709551615 c.args.blocks.now.items (omega (arith, c.requires.few)))

pub raise-requires-clause-from : goal.raise-requires-clause-from
raise-requires-clause-from g c = omega (arith, laid_long c.args.blocks.now.items c.args.starts.now.items c.requires.laid, c.requires.slot.1.inside)

pub returns-clause-list : goal.returns-clause-list
returns-clause-list g c = λ place slot.
    let bs = c.args.blocks.now.items in
    let same = row_is bs c.args.at.block c.index_mut-row.result.now slot.inside c.index_mut-row.ensures.value in
    list_put items_of bs c.args.at.block c.args.at.slot place c.insert.new.self c.args.element slot.inside slot.place slot.slot (c.in-Ok.ensures.items ∙ ap (λ l. insert l c.args.at.slot c.args.element) (sym same))

pub returns-clause-laid : goal.returns-clause-laid
returns-clause-laid g c =
    let bs = c.args.blocks.now.items in
    let slot = c.requires.slot.1 in
    let same = row_is bs c.args.at.block c.index_mut-row.result.now slot.inside c.index_mut-row.ensures.value in
    subst (AreBlocks (slice_set bs c.args.at.block c.insert.new.self)) (sym c.raise.ensures)
    (more_laid bs c.args.starts.now.items c.args.at.block c.requires.laid slot.inside c.insert.new.self c.args.at.slot c.args.element (c.in-Ok.ensures.items ∙ ap (λ l. insert l c.args.at.slot c.args.element) (sym same)) slot.slot)
