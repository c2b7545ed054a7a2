use Rattle.std.proofs.Common.{arith, length, refl}
use Rattle.std.proofs.lemmas.Option.{slice_get_read}
use Rattle.fib_follow_looked.specs.inner.Turning.{is_near}
use Rattle.fib_follow_looked.proofs.Growth.{adds_none, adds_step, adds_whole}
use Rattle.fib_follow_looked.proofs.look.add_on.Goals as goal

pub neighbors-init : goal.neighbors-init
neighbors-init c = adds_none (is_near c.args.interface) c.args.neighbors.now c.args.set.now

pub neighbors-preserved : goal.neighbors-preserved
neighbors-preserved c =
    adds_step (is_near c.args.interface) c.args.neighbors.now c.neighbors.place c.index-neighbors-place.result c.args.set.now c.neighbors.set
    c.add_if_on.new.set
    (slice_get_read c.args.neighbors.now
    (length c.args.neighbors.now) c.neighbors.place c.index-neighbors-place.result refl c.neighbors-test.true c.index-neighbors-place.is)
    c.neighbors.invariant c.in_ok-add_if_on.ensures

pub returns : goal.returns
returns c = let over = c.neighbors-test.false
    in adds_whole (is_near c.args.interface) c.args.neighbors.now c.neighbors.place c.args.set.now c.neighbors.set (omega (arith, over)) c.neighbors.invariant
