use Rattle.std.proofs.Common.{arith, ◌≡◌, refl, sym, subst, length}
use Rattle.std.proofs.lemmas.Option.{slice_get_read}
use Rattle.fib_resolve_changes.proofs.Ranking.{ranked}
use Rattle.fib_entries_rows.specs.Known.{rank_of}
use Rattle.fib_print_listing.specs.inner.Forwards.{AddsWhere, AreRanked, AreSoFar}
use Rattle.fib_print_listing.proofs.Forwards.{so_far_none, so_far_more, so_far_all}
use Rattle.fib_print_listing.proofs.Listed.{by_rank}
use Rattle.fib_print_listing.proofs.forwarding.forwarding.Goals as goal

pub loop-x-init : goal.loop-x-init
loop-x-init c = λ S h.
    let v = c.args.entries.now in
    let xs = c.deref-x-items.result.now in
    let are = subst (AreRanked v.rows) (sym c.deref-x-items.ensures.value) c.in_ok-ranks.ensures in
    subst (AreSoFar S xs 0) (sym c.new-found.ensures.empty) (so_far_none S (rank_of v.rows) (ranked S (rank_of v.rows) h.falls) xs (by_rank v S h xs are))

pub loop-x-preserved : goal.loop-x-preserved
loop-x-preserved c = λ S h.
    let v = c.args.entries.now in
    let xs = c.deref-x-items.result.now in
    let are = subst (AreRanked v.rows) (sym c.deref-x-items.ensures.value) c.in_ok-ranks.ensures in
    let n = c.loop-x.x-index in
    let x = c.x-item.result in
    let old = c.loop-x.found.keys in
    let new = c.add_where.new.forwarding.keys in
    let at = slice_get_read xs _ n x refl (omega (arith, c.loop-x-test.true)) c.x-item.is in
    let adds = subst (λ l. AddsWhere l x.1 old new) (c.marked.ensures S h) c.in_ok-add_where.ensures in
    so_far_more S (rank_of v.rows) (ranked S (rank_of v.rows) h.falls) xs (by_rank v S h xs are) n x old new at (c.loop-x.invariant S h) adds

pub returns : goal.returns
returns c = λ S h.
    let v = c.args.entries.now in
    let xs = c.deref-x-items.result.now in
    let are = subst (AreRanked v.rows) (sym c.deref-x-items.ensures.value) c.in_ok-ranks.ensures in
    let done : c.loop-x.x-index ≡ length xs = omega (arith, c.loop-x-test.false, c.loop-x.auto.x-index-end) in
    so_far_all S (rank_of v.rows) (ranked S (rank_of v.rows) h.falls) xs (by_rank v S h xs are) c.loop-x.found.keys (subst (λ n. AreSoFar S xs n c.loop-x.found.keys) done (c.loop-x.invariant S h))
