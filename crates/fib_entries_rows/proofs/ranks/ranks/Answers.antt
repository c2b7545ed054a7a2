use Rattle.std.proofs.Common.{◌<◌, ◌+◌, ◌∙◌, ap, sym, subst}
use Rattle.std.specs.Prelude.{slice_index}
use Rattle.fib_entries_rows.proofs.Ranking.{none_ranked, place_fits, one_ranked, ranks_fall}
use Rattle.fib_entries_rows.proofs.ranks.ranks.Goals as goal

pub loop-place-init : goal.loop-place-init
loop-place-init c = none_ranked c.saturating_sub-base.result c.order-order.result.now c.in_ok-out.out.items c.args.nodes c.args.edges.now c.in_ok-marks.marks c.in_ok-marks.ensures (sym c.order-order.ensures) (let a = c.in_ok-out.ensures.len in let b = c.in_ok-out.out.ok in search (a, b))

pub index_mut-requires : goal.index_mut-requires
index_mut-requires c = let p = place_fits c.saturating_sub-base.result c.order-order.result.now c.loop-place.out.items c.args.nodes c.loop-place.place c.loop-place.invariant c.loop-place-test.true in subst (λ n. slice_index c.order-order.result.now c.loop-place.place < n) (sym c.loop-place.out.ok.0) p

pub loop-place-preserved : goal.loop-place-preserved
loop-place-preserved c = one_ranked c.saturating_sub-base.result c.order-order.result.now c.loop-place.out.items c.args.nodes c.loop-place.place c.in-Some.rank c.loop-place.invariant c.loop-place-test.true (c.in-Some.ensures.1 ∙ ap (λ z. c.saturating_sub-base.result + z) c.in-Ok.ensures.1)

pub returns : goal.returns
returns c = (
  c.loop-place.invariant.len,
  ranks_fall c.saturating_sub-base.result c.order-order.result.now c.loop-place.out.items c.args.nodes c.loop-place.place c.args.edges.now c.in_ok-marks.marks c.in_ok-marks.ensures (sym c.order-order.ensures) c.loop-place.invariant c.loop-place-test.false c.requires.open,
)
