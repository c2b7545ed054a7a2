use Rattle.std.proofs.Common.{arith, ◌<◌, length, sym, ◌∙◌, ap, subst}
use Rattle.std.specs.Prelude.{slice_set}
use Rattle.std.specs.List.{AllByRecursion, insert}
use Rattle.std.proofs.lemmas.Result.{err_from_is_err_and}
use Rattle.fib_base_blocks.specs.inner.Layout.{AreBlocks, items_of}
use Rattle.fib_base_blocks.proofs.Starts.{starts_low}
use Rattle.fib_base_blocks.proofs.Laid.{laid_long, row_is, filled_at, same_laid, more_laid}
use Rattle.fib_base_blocks.proofs.Edits.{list_same, list_put}
use Rattle.fib_base_blocks.proofs.layout.put.Goals as goal

pub raise-requires-clause-low : goal.raise-requires-clause-low
raise-requires-clause-low g c = subst (AllByRecursion (λ n. n < 18446744073709551615)) (sym c.requires.laid.starts) (starts_low items_of 0 18446744073709551615 c.args.blocks.now.items (omega (arith, c.requires.few)))

pub raise-requires-clause-from : goal.raise-requires-clause-from
raise-requires-clause-from g c = omega (arith, laid_long c.args.blocks.now.items c.args.starts.now.items c.requires.laid, c.requires.room.1.inside)

pub returns-in_err-insert-clause-err : goal.returns-in_err-insert-clause-err
returns-in_err-insert-clause-err g c =
    let bs = c.args.blocks.now.items in
    let inside = c.requires.room.1.inside in
    let same = row_is bs c.args.at.block c.index_mut-row.result.now inside c.index_mut-row.ensures.value in
    let p = err_from_is_err_and c.from_residual.result c.from_residual.ensures.1 in
    rw p.1 (list_same items_of bs c.args.at.block c.insert.new.self inside (c.in_err-insert.ensures.items ∙ sym same))

pub returns-in_err-insert-clause-laid : goal.returns-in_err-insert-clause-laid
returns-in_err-insert-clause-laid g c =
    let bs = c.args.blocks.now.items in
    let inside = c.requires.room.1.inside in
    let same = row_is bs c.args.at.block c.index_mut-row.result.now inside c.index_mut-row.ensures.value in
    let was = filled_at bs c.args.starts.now.items c.args.at.block c.index_mut-row.result.now c.requires.laid inside c.index_mut-row.ensures.value in
    let kept = c.in_err-insert.ensures.items in
    same_laid bs c.args.starts.now.items c.args.at.block c.requires.laid inside c.insert.new.self (kept ∙ sym same) (omega (arith, was, ap length kept))

pub returns-clause-ok : goal.returns-clause-ok
returns-clause-ok g c = λ place roomy.
    let bs = c.args.blocks.now.items in
    let same = row_is bs c.args.at.block c.index_mut-row.result.now roomy.inside c.index_mut-row.ensures.value in
    list_put items_of bs c.args.at.block c.args.at.slot place c.insert.new.self c.args.element roomy.inside roomy.place roomy.slot (c.in_ok-insert.ensures.items ∙ ap (λ l. insert l c.args.at.slot c.args.element) (sym same))

pub returns-clause-laid : goal.returns-clause-laid
returns-clause-laid g c =
    let bs = c.args.blocks.now.items in
    let roomy = c.requires.room.1 in
    let same = row_is bs c.args.at.block c.index_mut-row.result.now roomy.inside c.index_mut-row.ensures.value in
    subst (AreBlocks (slice_set bs c.args.at.block c.insert.new.self)) (sym c.raise.ensures)
    (more_laid bs c.args.starts.now.items c.args.at.block c.requires.laid roomy.inside c.insert.new.self c.args.at.slot c.args.element (c.in_ok-insert.ensures.items ∙ ap (λ l. insert l c.args.at.slot c.args.element) (sym same)) roomy.slot)
