use Rattle.std.proofs.Common.{arith, ◌<◌, length, refl}
use Rattle.std.proofs.lemmas.Option.{slice_get-get_or, slice_get_read}
use Rattle.fib_entries_rows.proofs.Loopings.{ends_more}
use Rattle.fib_follow_part.proofs.edges.marked.Goals as goal

pub edges-preserved : goal.edges-preserved
edges-preserved c =
    let edges = c.args.edges.now in
    let order = c.args.order.now in
    let lt : c.edges.k < length edges = omega (arith, c.edges-test.true, c.requires.edges) in
    ends_more order edges c.args.marks.now.looped c.edges.k _ c.index-order-edge.result c.index-order-edge-in-edges.result
    (slice_get-get_or edges c.edges.k _ lt)
    (slice_get_read order (length order) _ c.index-order-edge.result refl (c.requires.places c.edges.k _ lt).0 c.index-order-edge.is)
    (slice_get_read order (length order) _ c.index-order-edge-in-edges.result refl (c.requires.places c.edges.k _ lt).1 c.index-order-edge-in-edges.is)
    c.edges.held.keys c.add_if.new.held.keys c.edges.invariant c.looped.result c.looped.ensures c.in_ok-add_if.ensures
