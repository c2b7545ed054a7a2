use Rattle.std.proofs.Common.{◌≡◌}
use Rattle.fib_worker.specs.inner.Runs.{IsUnderWay, WithTrail, rest_in}
use Rattle.fib_worker.proofs.walk.below_balances.Given as goal

abbrev pub invariant-loop-stage : goal.invariant-loop-stage
invariant-loop-stage l =
    (l.seat.id ≡ l.initial.seat.id) × WithTrail l.initial.seat.worker l.seat.worker × IsUnderWay l.addr l.hash l.seat.worker l.stage

abbrev pub decreases-loop-stage : goal.decreases-loop-stage
decreases-loop-stage l = rest_in l.seat.worker l.stage
