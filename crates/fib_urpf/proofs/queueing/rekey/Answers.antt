use Rattle.std.proofs.Common.{arith, inr, refl, sym}
use Rattle.fib_entries_rows.specs.Known.{rank_of}
use Rattle.fib_urpf.proofs.Requeued.{rekeyed_queued, rekeyed_rank}
use Rattle.fib_urpf.proofs.queueing.rekey.Goals as goal

pub loop-one-init : goal.loop-one-init
loop-one-init c = record { queued = λ d. refl; ranks = λ d r at. inr (at, refl); spare = omega arith }

pub loop-one-preserved : goal.loop-one-preserved
loop-one-preserved c =
    let i = c.loop-one.invariant in
    let qs = c.args.listed.now in
    let q = c.one-item.result in
    let lt = c.loop-one-test.true in
    record {
      queued = λ d. rekeyed_queued _ _ _ _ _ (c.set_rank.ensures.ranks d) (i.queued d);
      ranks = λ d r at. rekeyed_rank (rank_of c.args.entries.now.rows) qs c.loop-one.one-index q d _ _ _ _ r lt (sym c.one-item.is) (c.set_rank.ensures.ranks d) c.rank.ensures (λ n before. i.ranks d n before) at;
      spare = omega (arith, i.spare, c.set_rank.ensures.spare);
    }
