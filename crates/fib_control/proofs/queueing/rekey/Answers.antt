use Rattle.std.proofs.Common.{arith, inr, refl, sym}
use Rattle.fib_control.proofs.Queued.{rekeyed_queued, rekeyed_rank}
use Rattle.fib_control.proofs.queueing.rekey.Goals as goal

pub loop-one-init : goal.loop-one-init
loop-one-init c = record { queued = λ d. refl; ranks = λ d r at. inr (at, refl); spare = omega arith }

pub loop-one-preserved : goal.loop-one-preserved
loop-one-preserved c =
    let i = c.loop-one.invariant in
    let ms = c.args.moved.now in
    let m = c.one-item.result in
    let lt = c.loop-one-test.true in
    record {
      queued = λ d. rekeyed_queued _ _ _ _ _ (c.set_rank.ensures.ranks d) (i.queued d);
      ranks = λ d r at. rekeyed_rank c.args.entries.now.rows ms c.loop-one.one-index m d _ _ _ _ r lt (sym c.one-item.is) (c.set_rank.ensures.ranks d) c.rank.ensures (λ n before. i.ranks d n before) at;
      spare = omega (arith, i.spare, c.set_rank.ensures.spare);
    }
