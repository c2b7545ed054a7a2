use Rattle.std.proofs.Common.{◌≡◌, length}
use Rattle.fib_worker_crew.specs.Packets.{span}
use Rattle.fib_worker_crew.specs.Work.{HasWorked, steps_so_far}
use Rattle.fib_worker_crew.proofs.claims.work.Given as goal

abbrev pub invariant-loop-made : goal.invariant-loop-made
invariant-loop-made g l = record {
  worked : HasWorked l.fn.taken.opened l.fn.taken.first l.fn.taken.base l.made (span l.packets.packets l.fn.taken.first l.fn.taken.to) l.fn.worker l.worker (steps_so_far l.list.items);
  long : length l.list.items ≡ l.made;
}
