use Rattle.std.proofs.Common.{take, refl, sym, ap, ◌∙◌, subst}
use Rattle.std.proofs.lemmas.Option.{slice_get_read}
use Rattle.fib_resolve.specs.Pairs.{chosen}
use Rattle.fib_base_interned.proofs.Finding.{some_is}
use Rattle.fib_entries_rows.specs.inner.Edges.{AddsPaths}
use Rattle.fib_entries_rows.proofs.Anew.{take_more, take_all}
use Rattle.fib_entries_rows.proofs.Edging.{more_paths}
use Rattle.fib_entries_rows.proofs.edges.add_paths.Goals as goal

pub loop-p-preserved : goal.loop-p-preserved
loop-p-preserved c = λ e at.
    subst (λ l. AddsPaths c.args.meaning.now c.args.order.now c.args.from e l c.args.out.now.items c.add_path.new.out.items) (sym (take_more c.chosen-p-items.result.now c.loop-p.p-index c.p-item.result c.loop-p-test.true c.p-item.is))
    (more_paths c.args.meaning.now c.args.order.now c.args.from e (take c.loop-p.p-index c.chosen-p-items.result.now) c.p-item.result c.args.out.now.items c.loop-p.out.items c.add_path.new.out.items
    (c.loop-p.invariant e at) (c.in_ok-add_path.ensures e at))

pub returns : goal.returns
returns c = λ e at.
    let read = slice_get_read c.args.order.now _ c.args.from c.index-order-from.result refl c.requires.inside c.index-order-from.is in
    let same = some_is c.index-order-from.result e (sym read ∙ at) in
    subst (λ l. AddsPaths c.args.meaning.now c.args.order.now c.args.from e l c.args.out.now.items c.loop-p.out.items)
    (take_all c.chosen-p-items.result.now c.loop-p.p-index c.loop-p-test.false ∙ (c.chosen-p-items.ensures ∙ ap (chosen c.args.meaning.now) same)) (c.loop-p.invariant e at)
