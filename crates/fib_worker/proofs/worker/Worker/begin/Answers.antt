use Rattle.std.proofs.Common.{◌<◌, ◌^◌, subst}
use Rattle.fib_worker.proofs.Runs.{begins_with}
use Rattle.fib_worker.proofs.worker.Worker.begin.Goals as goal

pub invariant_of-result : goal.invariant_of-result
invariant_of-result c =
    begins_with _ _ c.self.inside.seat c.start-seat.result c.version-lo.new.self _ _ c.start-seat.ensures.started c.version-lo.ensures.learned c.start-seat.ensures.sound c.start-seat.ensures.few
    (subst (λ n. n < 2 ^ 32) c.bits_of-bits.ensures c.bits_of-bits.type_inv) c.ranges.hash.fits c.first.ensures
