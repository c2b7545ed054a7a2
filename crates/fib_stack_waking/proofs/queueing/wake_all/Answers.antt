use Rattle.std.proofs.Common.{arith, sym}
use Rattle.fib_stack_waking.proofs.Woken.{among_next, queued_next, rank_at, rank_next}
use Rattle.fib_stack_waking.proofs.queueing.wake_all.Goals as goal

pub loop-next-preserved : goal.loop-next-preserved
loop-next-preserved c =
    let i = c.loop-next.invariant in
    let qs = c.args.woken.now in
    let q = c.next-item.result in
    let lt = c.loop-next-test.true in
    record {
      queued = λ d. queued_next _ _ _ _ _ _ q.rank (c.add.ensures.ranks d) (i.queued d) (among_next qs c.loop-next.next-index q d lt (sym c.next-item.is));
      ranks = λ rank h d r at. rank_next rank q.prefix d _ _ _ q.rank r (c.add.ensures.ranks d) (rank_at rank qs c.loop-next.next-index q lt (sym c.next-item.is) h) (λ k before. i.ranks rank h d k before) at;
      spare = omega (arith, i.spare, c.add.ensures.spare);
    }
