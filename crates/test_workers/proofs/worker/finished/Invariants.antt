use Rattle.std.proofs.Common.{◌≡◌, ◌-◌}
use Rattle.test_workers.proofs.worker.finished.Given as goal

abbrev pub invariant-loop-on : goal.invariant-loop-on
invariant-loop-on l = l.pass.seat.id ≡ l.fn.pass.seat.id

abbrev pub decreases-loop-on : goal.decreases-loop-on
decreases-loop-on l = l.pass.seat.worker.objects - l.pass.hops
