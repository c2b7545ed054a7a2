use Rattle.std.proofs.Common.{◌<◌, ◌^◌, subst}
use Rattle.fib_worker.proofs.Runs.{begins_with}
use Rattle.fib_worker.proofs.worker.Worker.forward.Goals as goal

pub walk-end-requires : goal.walk-end-requires
walk-end-requires c =
    let way = begins_with _ _ c.self.inside.seat c.start-seat.result c.version-known.new.self _ _ c.start-seat.ensures.started c.version-known.ensures.learned c.start-seat.ensures.sound
    c.start-seat.ensures.few (subst (λ n. n < 2 ^ 32) c.bits_of-bits.ensures c.bits_of-bits.type_inv) c.ranges.hash.fits c.first.ensures in
    record { follows = way.running.follows; at = way.running.at; sound = way.running.sound }
