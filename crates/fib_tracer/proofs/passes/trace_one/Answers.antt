use Rattle.std.proofs.Common.{arith}
use Rattle.fib_tracer.proofs.Making.{made_one}
use Rattle.fib_tracer.proofs.passes.trace_one.Goals as goal

pub returns-in-Ok-clause-made : goal.returns-in-Ok-clause-made
returns-in-Ok-clause-made g c = λ _.
    rw c.in-Flow.is (made_one c.in-Flow.addr c.in-Flow.hash c.args.seat c.trace-seat.result.0 c.trace-seat.result.1 c.trace-seat.new.trail.loads c.args.log.now.passes.items c.keep.new.passes.items
    c.trace-seat.ensures.traced (omega (arith, c.keep.ensures.few, c.trace-seat.ensures.same, c.requires.short)) c.in-Ok.ensures.ok)
