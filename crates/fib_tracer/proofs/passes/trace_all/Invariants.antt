use Rattle.std.proofs.Common.{◌≡◌, ◌+◌, ◌≤◌, take, length}
use Rattle.fib_core_lawful.specs.State.{left_of}
use Rattle.fib_tracer.specs.inner.Tracing.{HasTracedAll}
use Rattle.fib_tracer.proofs.passes.trace_all.Given as goal

abbrev pub invariant-loop-at : goal.invariant-loop-at
invariant-loop-at g l = record {
  made : HasTracedAll (take l.at l.packets.packets) l.fn.seat l.seat l.initial.log.passes.items l.log.passes.items;
  left : length l.packets.packets ≤ left_of l.seat.worker.pass + l.at;
  room : l.log.trail.objects ≡ l.initial.log.trail.objects;
}
