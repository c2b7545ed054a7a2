use Rattle.std.proofs.Common.{◌<◌, ◌^◌, subst}
use Rattle.fib_worker.proofs.Runs.{begins_with}
use Rattle.fib_trace.proofs.pass.trace.Goals as goal

pub run-end-requires-clause-way : goal.run-end-requires-clause-way
run-end-requires-clause-way c =
    begins_with _ _ c.args.seat c.start-seat.result c.version-lo.new.self _ _ c.start-seat.ensures.started c.version-lo.ensures.learned c.start-seat.ensures.sound c.start-seat.ensures.few
    (subst (λ n. n < 2 ^ 32) c.bits_of-bits.ensures c.bits_of-bits.type_inv) c.ranges.hash.fits c.first.ensures
