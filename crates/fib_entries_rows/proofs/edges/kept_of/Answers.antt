use Rattle.std.proofs.Common.{length, take, refl, sym, subst}
use Rattle.std.specs.Prelude.{slice_index_or}
use Rattle.std.proofs.lemmas.Option.{slice_get_read}
use Rattle.fib_entries_rows.proofs.Anew.{take_all}
use Rattle.fib_entries_rows.proofs.Edging.{AreKeptOf, edge_places, more_kept, all_kept, edge_in, edge_take}
use Rattle.fib_entries_rows.proofs.edges.kept_of.Goals as goal

pub bounds-order-edge : goal.bounds-order-edge
bounds-order-edge c = (edge_places c.args.meaning.now c.args.order.now (length c.args.order.now) c.args.edges.now c.requires.edges _ (edge_in c.args.edges.now c.loop-place.place (0, 0) c.loop-place-test.true)).0

pub bounds-order-edge-in-loop-place : goal.bounds-order-edge-in-loop-place
bounds-order-edge-in-loop-place c = (edge_places c.args.meaning.now c.args.order.now (length c.args.order.now) c.args.edges.now c.requires.edges _ (edge_in c.args.edges.now c.loop-place.place (0, 0) c.loop-place-test.true)).1

pub loop-place-preserved : goal.loop-place-preserved
loop-place-preserved c =
    let in_order = edge_places c.args.meaning.now c.args.order.now (length c.args.order.now) c.args.edges.now c.requires.edges _ (edge_in c.args.edges.now c.loop-place.place (0, 0) c.loop-place-test.true) in
    subst (λ l. AreKeptOf c.args.meaning.now c.args.order.now l c.add_if.new.out.items) (sym (edge_take c.args.edges.now c.loop-place.place (0, 0) c.loop-place-test.true))
    (more_kept c.args.meaning.now c.args.order.now (take c.loop-place.place c.args.edges.now) c.loop-place.out.items c.add_if.new.out.items (slice_index_or c.args.edges.now c.loop-place.place (0, 0))
    c.index-order-edge.result c.index-order-edge-in-loop-place.result c.keeps-kept.result c.loop-place.invariant
    (slice_get_read c.args.order.now _ _ c.index-order-edge.result refl in_order.0 c.index-order-edge.is)
    (slice_get_read c.args.order.now _ _ c.index-order-edge-in-loop-place.result refl in_order.1 c.index-order-edge-in-loop-place.is)
    c.keeps-kept.ensures c.in_ok-add_if.ensures)

pub returns : goal.returns
returns c =
    all_kept c.args.meaning.now c.args.order.now c.args.edges.now c.loop-place.out.items c.requires.edges
    (subst (λ l. AreKeptOf c.args.meaning.now c.args.order.now l c.loop-place.out.items) (take_all c.args.edges.now c.loop-place.place c.loop-place-test.false) c.loop-place.invariant)
