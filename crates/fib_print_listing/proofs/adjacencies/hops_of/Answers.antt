use Rattle.std.proofs.Common.{sym, subst, take, map, []}
use Rattle.std.specs.Prelude.{flat_map}
use Rattle.fib_resolve.specs.Sizes.{same_adjacency}
use Rattle.fib_entries_rows.specs.Known.{prefix_of}
use Rattle.fib_print_listing.specs.inner.Hops.{AddsHops, hops_at, mark_hops}
use Rattle.fib_print_listing.proofs.Adding.{adds_more}
use Rattle.fib_print_listing.proofs.Taking.{flat_at}
use Rattle.fib_print_listing.proofs.adjacencies.hops_of.Goals as goal

pub loop-place-preserved : goal.loop-place-preserved
loop-place-preserved c = λ S h.
    let ps = map prefix_of c.args.entries.now.rows in
    let n = c.loop-place.place in
    let e = c.at.result in
    let old = c.loop-place.hops.entries in
    let new = c.add_hops.new.hops.entries in
    let here = subst (λ l. AddsHops (flat_map mark_hops l) old new) (c.marked.ensures S h) c.in_ok-add_hops.ensures in
    subst (λ l. AddsHops l [] new) (sym (flat_at (hops_at S) ps n e c.at.ensures))
    (adds_more same_adjacency (λ x. x) (flat_map (hops_at S) (take n ps)) (hops_at S e) [] old new (c.loop-place.invariant S h) here)
