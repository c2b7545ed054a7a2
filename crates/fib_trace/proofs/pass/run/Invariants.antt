use Rattle.std.proofs.Common.{◌≡◌, ◌-◌, length}
use Rattle.fib_core.specs.Trails.{visited}
use Rattle.fib_worker.specs.inner.Runs.{IsOnItsWay, WithTrail}
use Rattle.fib_trace.specs.Traces.{coded}
use Rattle.fib_trace.proofs.pass.run.Given as goal

abbrev pub invariant-loop-stage : goal.invariant-loop-stage
invariant-loop-stage l = record {
  id : l.seat.id ≡ l.fn.seat.id;
  known : WithTrail l.fn.seat.worker l.seat.worker;
  way : IsOnItsWay l.addr l.hash l.seat.worker l.stage l.fn.lo (length l.trail.loads);
  told : l.seat.worker.trail ≡ coded l.trail.loads;
  same : l.trail.objects ≡ l.fn.trail.objects;
}

abbrev pub decreases-loop-stage : goal.decreases-loop-stage
decreases-loop-stage l = l.seat.worker.objects - length (visited l.seat.worker.trail)
