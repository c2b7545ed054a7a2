use Rattle.std.proofs.Common.{arith, length, refl, subst, sym, take}
use Rattle.std.proofs.lemmas.Option.{slice_get_read}
use Rattle.fib_follow_plan.specs.inner.Hops.{AreHopsAmong}
use Rattle.fib_follow_plan.proofs.Hopping.{hops_none, hops_step, hops_whole}
use Rattle.fib_follow_plan.proofs.hops.hops_among.Goals as goal

pub looked-init : goal.looked-init
looked-init c = λ g. subst (AreHopsAmong c.args.after.now.tables (take 0 c.args.looked.now)) (sym c.new-set.ensures)
    (hops_none c.args.after.now.tables c.args.looked.now)

pub looked-preserved : goal.looked-preserved
looked-preserved c = λ g.
    hops_step c.args.after.now.tables c.args.looked.now c.looked.place c.index-looked-place.result c.looked.set c.add_hop.new.set
    (slice_get_read c.args.looked.now
    (length c.args.looked.now) c.looked.place c.index-looked-place.result refl c.looked-test.true c.index-looked-place.is)
    (c.looked.invariant g) (c.in_ok-add_hop.ensures g)

pub returns : goal.returns
returns c = λ g. let over = c.looked-test.false
    in hops_whole c.args.after.now.tables c.args.looked.now c.looked.place c.looked.set (omega (arith, over)) (c.looked.invariant g)
