use Rattle.std.proofs.Common.{arith}
use Rattle.fib_worker_crew.proofs.Forwards.{forwarded_none, forwarded_one, one_left}
use Rattle.fib_worker_crew.proofs.span.forward_span.Goals as goal

pub loop-at-init : goal.loop-at-init
loop-at-init g c = record {
  done = forwarded_none c.args.worker c.args.from c.args.packets.now.packets c.args.from c.args.results.now.list;
  left = c.requires.left;
  room = c.requires.room;
}

pub loop-at-preserved : goal.loop-at-preserved
loop-at-preserved g c =
    let i = c.loop-at.invariant in
    let to = c.requires.inside in
    let lt = c.loop-at-test.true in
    let one = c.forward_one-worker.ensures.one in
    record {
      done = forwarded_one c.args.worker c.loop-at.worker c.forward_one-worker.result c.args.packets.now.packets c.args.from c.loop-at.at c.args.results.now.list c.loop-at.results.list c.forward_one-worker.new.results.list c.at.result
          c.loop-at.auto.at (omega (arith, lt, to)) c.at.ensures i.done one;
      left = (let l = i.left in let h = one_left c.loop-at.worker c.forward_one-worker.result c.loop-at.at c.at.result c.loop-at.results.list c.forward_one-worker.new.results.list one in omega (arith, l, h));
      room = (let r = i.room in let s = c.forward_one-worker.ensures.spare in omega (arith, r, s));
    }
