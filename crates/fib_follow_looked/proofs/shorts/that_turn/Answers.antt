use Rattle.std.proofs.Common.{arith, [], length, refl, sym, subst, take}
use Rattle.std.proofs.lemmas.Option.{slice_get_read}
use Rattle.fib_follow_looked.specs.inner.Adding.{AddsEach}
use Rattle.fib_follow_looked.specs.inner.Turning.{is_turn}
use Rattle.fib_follow_looked.proofs.Growth.{adds_none, adds_step, adds_whole}
use Rattle.fib_follow_looked.proofs.shorts.that_turn.Goals as goal

pub turned-init : goal.turned-init
turned-init c = subst (AddsEach (is_turn c.args.how) (take 0 c.args.turned.now) []) (sym c.new-set.ensures)
    (adds_none (is_turn c.args.how) c.args.turned.now [])

pub turned-preserved : goal.turned-preserved
turned-preserved c =
    adds_step (is_turn c.args.how) c.args.turned.now c.turned.place c.index-turned-place.result [] c.turned.set c.add_turned.new.set
    (slice_get_read c.args.turned.now (length c.args.turned.now) c.turned.place c.index-turned-place.result refl c.turned-test.true c.index-turned-place.is)
    c.turned.invariant c.in_ok-add_turned.ensures

pub returns-clause-each : goal.returns-clause-each
returns-clause-each c = let over = c.turned-test.false
    in adds_whole (is_turn c.args.how) c.args.turned.now c.turned.place [] c.turned.set (omega (arith, over)) c.turned.invariant
