use Rattle.std.proofs.Common.{arith, [], length, refl, subst, sym}
use Rattle.std.proofs.lemmas.Option.{slice_get_read}
use Rattle.fib_follow_told.specs.inner.Gathered.{Gathers}
use Rattle.fib_follow_told.proofs.Gathering.{gathers_none, goals_step, goals_whole}
use Rattle.fib_follow_told.proofs.seen.targets.Goals as goal

pub goals-init : goal.goals-init
goals-init c = subst (Gathers [] []) (sym c.new-seen.ensures) (gathers_none [] tt)

pub see_goal-requires : goal.see_goal-requires
see_goal-requires c = c.goals.invariant.once

pub goals-preserved : goal.goals-preserved
goals-preserved c =
    goals_step c.args.goals.now c.goals.place c.index-goals-place.result [] c.goals.seen c.see_goal.new.seen
    (slice_get_read c.args.goals.now (length c.args.goals.now) c.goals.place c.index-goals-place.result refl c.goals-test.true c.index-goals-place.is)
    c.goals.invariant c.in_ok-see_goal.ensures

pub returns : goal.returns
returns c = let over = c.goals-test.false in goals_whole c.args.goals.now c.goals.place [] c.goals.seen (omega (arith, over)) c.goals.invariant
