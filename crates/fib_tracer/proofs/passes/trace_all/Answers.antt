use Rattle.std.proofs.Common.{arith, ◌∙◌}
use Rattle.fib_tracer.proofs.Making.{made_next}
use Rattle.fib_tracer.proofs.passes.trace_all.Goals as goal

pub loop-at-preserved : goal.loop-at-preserved
loop-at-preserved g c =
    let inv = c.loop-at.invariant in
    let one = c.trace_one-went.ensures.made c.if-not-kept.false in
    record {
      made = made_next c.args.packets.now.packets c.loop-at.at c.at.result c.args.seat c.loop-at.seat c.trace_one-went.result.seat c.args.log.now.passes.items c.loop-at.log.passes.items
          c.trace_one-went.new.log.passes.items c.at.ensures inv.made one;
      left = omega (arith, inv.left, one.left);
      room = c.trace_one-went.ensures.room ∙ inv.room;
    }
