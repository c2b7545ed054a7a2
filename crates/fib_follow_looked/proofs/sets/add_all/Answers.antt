use Rattle.std.proofs.Common.{arith, length, refl}
use Rattle.std.proofs.lemmas.Option.{slice_get_read}
use Rattle.fib_addr.specs.Prefixes.{same_prefix}
use Rattle.fib_follow_looked.proofs.Growth.{adds_none, adds_step, adds_whole}
use Rattle.fib_follow_looked.proofs.sets.add_all.Goals as goal

pub list-init : goal.list-init
list-init c = adds_none (λ y q. same_prefix q y) c.args.list.now c.args.set.now

pub list-preserved : goal.list-preserved
list-preserved c =
    adds_step (λ y q. same_prefix q y) c.args.list.now c.list.place c.index-list-place.result c.args.set.now c.list.set c.add_one.new.set
    (slice_get_read c.args.list.now (length c.args.list.now) c.list.place c.index-list-place.result refl c.list-test.true c.index-list-place.is)
    c.list.invariant c.in_ok-add_one.ensures

pub returns : goal.returns
returns c = let over = c.list-test.false
    in adds_whole (λ y q. same_prefix q y) c.args.list.now c.list.place c.args.set.now c.list.set (omega (arith, over)) c.list.invariant
