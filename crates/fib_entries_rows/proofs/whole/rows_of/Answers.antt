use Rattle.std.proofs.Common.{length, sym, ap, ◌∙◌, subst, refl, Some, ◌+◌}
use Rattle.std.proofs.lemmas.Option.{slice_get_read}
use Rattle.fib_entries_rows.specs.inner.Building.{AreRows}
use Rattle.fib_entries_rows.proofs.Anew.{one_row}
use Rattle.fib_entries_rows.proofs.Edging.{edge_places, sources_are}
use Rattle.fib_entries_rows.proofs.whole.rows_of.Goals as goal

pub dependants_of-requires-clause-places : goal.dependants_of-requires-clause-places
dependants_of-requires-clause-places c = edge_places c.args.parts.meaning.now c.args.order.now (length c.args.order.now) c.args.edges.now c.requires.edges

pub row_at-requires-clause-once : goal.row_at-requires-clause-once
row_at-requires-clause-once c =
    (c.in_ok-dependants.ensures c.index-order-place.result (slice_get_read c.args.order.now _ c.loop-place.place c.index-order-place.result refl c.loop-place-test.true c.index-order-place.is)).once

pub row_at-requires-clause-all : goal.row_at-requires-clause-all
row_at-requires-clause-all c =
    let e = c.index-order-place.result in
    let at = slice_get_read c.args.order.now _ c.loop-place.place e refl c.loop-place-test.true c.index-order-place.is in
    sources_are c.args.parts.meaning.now c.args.order.now c.args.edges.now e c.in_ok-dependants.dependants c.requires.same c.requires.edges (c.in_ok-dependants.ensures e at)

pub loop-place-preserved : goal.loop-place-preserved
loop-place-preserved c =
    let own = c.in_ok-row_at.ensures.own in
    let parts = c.args.parts in
    subst (AreRows parts.lists.now parts.meaning.now c.args.order.now c.args.ranks.now (c.loop-place.place + 1)) (sym c.in_ok-push.ensures.items)
    (one_row parts.lists.now parts.meaning.now c.args.order.now c.args.ranks.now c.loop-place.place c.loop-place.out.items c.in_ok-row_at.field-0 c.loop-place.invariant c.in_ok-row_at.ensures.row
    (slice_get_read c.args.order.now _ c.loop-place.place c.index-order-place.result refl c.loop-place-test.true c.index-order-place.is ∙ ap Some (sym own.0)) own.1)
