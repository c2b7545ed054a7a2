use Rattle.std.proofs.Common.{◌≡◌, ◌≤◌, ◌++◌, drop}
use Rattle.fib_worker_crew.specs.Packets.{Matched}
use Rattle.fib_tracer.specs.Passes.{passes_text}
use Rattle.fib_tracer.specs.inner.Printing.{HasMoved, IsShort}
use Rattle.fib_tracer.proofs.put.write_passes.Given as goal

-- what was written, and then what is left, is the whole
abbrev pub invariant-loop-at : goal.invariant-loop-at
invariant-loop-at g l = record {
  moved : HasMoved (g.K.Sink.written l.initial.out) (g.K.Sink.written l.out) (l.initial.text.items ++ passes_text l.tables 0 l.packets.packets l.passes)
      (l.text.items ++ passes_text l.tables l.at (drop l.at l.packets.packets) l.rest);
  each : Matched IsShort (drop l.at l.packets.packets) l.rest;
  counted : g.K.Sink.faults l.initial.out ≤ g.K.Sink.faults l.out;
}
