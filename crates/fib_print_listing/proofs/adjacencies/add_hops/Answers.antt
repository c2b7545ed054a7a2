use Rattle.std.proofs.Common.{arith, refl, sym, subst, take}
use Rattle.std.specs.Prelude.{flat_map}
use Rattle.std.proofs.lemmas.Option.{slice_get_read}
use Rattle.fib_resolve.specs.Sizes.{same_adjacency}
use Rattle.fib_print_listing.specs.inner.Hops.{AddsHops, mark_hops}
use Rattle.fib_print_listing.proofs.Adding.{adds_more}
use Rattle.fib_print_listing.proofs.Taking.{flat_at}
use Rattle.fib_print_listing.proofs.adjacencies.add_hops.Goals as goal

pub loop-mark-preserved : goal.loop-mark-preserved
loop-mark-preserved c =
    let marks = c.args.marks.now in
    let n = c.loop-mark.mark-index in
    let m = c.mark-item.result in
    let at = slice_get_read marks _ n m refl (omega (arith, c.loop-mark-test.true)) c.mark-item.is in
    subst (λ l. AddsHops l c.args.hops.now.entries c.add_hop.new.hops.entries) (sym (flat_at mark_hops marks n m at))
    (adds_more same_adjacency (λ x. x) (flat_map mark_hops (take n marks)) (mark_hops m) c.args.hops.now.entries c.loop-mark.hops.entries c.add_hop.new.hops.entries c.loop-mark.invariant c.in_ok-add_hop.ensures)
