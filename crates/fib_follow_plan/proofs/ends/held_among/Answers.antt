use Rattle.std.proofs.Common.{arith, length, refl, subst, sym, take}
use Rattle.std.proofs.lemmas.Option.{slice_get_read}
use Rattle.fib_follow_plan.specs.inner.Ends.{AreEndsAmong, is_held}
use Rattle.fib_follow_plan.proofs.Ending.{ends_none, ends_step, ends_whole}
use Rattle.fib_follow_plan.proofs.ends.held_among.Goals as goal

pub ends-init : goal.ends-init
ends-init c = let test = is_held c.args.view.now c.args.features.now in
    subst (AreEndsAmong test (take 0 c.args.ends.now)) (sym c.new-held.ensures.empty) (ends_none test c.args.ends.now)

pub ends-preserved : goal.ends-preserved
ends-preserved c =
    ends_step (is_held c.args.view.now c.args.features.now) c.args.ends.now c.ends.place c.index-ends-place.result c.is_held.result
    c.ends.held.keys c.add_if.new.held.keys
    (slice_get_read c.args.ends.now (length c.args.ends.now) c.ends.place c.index-ends-place.result refl c.ends-test.true c.index-ends-place.is)
    c.is_held.ensures c.ends.invariant c.in_ok-add_if.ensures

pub returns : goal.returns
returns c = let over = c.ends-test.false
    in ends_whole (is_held c.args.view.now c.args.features.now) c.args.ends.now c.ends.place c.ends.held.keys (omega (arith, over)) c.ends.invariant
