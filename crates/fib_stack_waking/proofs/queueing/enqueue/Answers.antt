use Rattle.std.proofs.Common.{arith, sym}
use Rattle.fib_entries_rows.specs.Known.{rank_of}
use Rattle.fib_stack_waking.proofs.Woken.{named_next, queued_next, rank_next}
use Rattle.fib_stack_waking.proofs.queueing.enqueue.Goals as goal

pub loop-prefix-preserved : goal.loop-prefix-preserved
loop-prefix-preserved c =
    let i = c.loop-prefix.invariant in
    let ds = c.args.prefixes.now in
    let x = c.prefix-item.result in
    let lt = c.loop-prefix-test.true in
    record {
      queued = λ d. queued_next _ _ _ _ _ _ c.rank.result (c.add.ensures.ranks d) (i.queued d) (named_next ds c.loop-prefix.prefix-index x d lt (sym c.prefix-item.is));
      ranks = λ d r at. rank_next (rank_of c.args.entries.now.rows) x d _ _ _ c.rank.result r (c.add.ensures.ranks d) c.rank.ensures (λ k before. i.ranks d k before) at;
      spare = omega (arith, i.spare, c.add.ensures.spare);
    }
