use Rattle.std.proofs.Common.{◌+◌, ◌≤◌}
use Rattle.fib_core_lawful.specs.State.{left_of}
use Rattle.fib_worker_crew.specs.Packets.{span}
use Rattle.fib_worker_crew.specs.Results.{HasForwarded}
use Rattle.fib_worker_crew.proofs.span.forward_span.Given as goal

abbrev pub invariant-loop-at : goal.invariant-loop-at
invariant-loop-at g l = record {
  done : HasForwarded l.fn.worker l.worker l.from (span l.packets.packets l.from l.at) l.initial.results.list l.results.list;
  left : l.to ≤ left_of l.worker.worker.pass + l.at;
  room : l.to ≤ l.results.spare + l.at;
}
