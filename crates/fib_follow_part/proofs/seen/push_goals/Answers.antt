use Rattle.std.proofs.Common.{arith, length, refl}
use Rattle.std.specs.Prelude.{option_to_list}
use Rattle.std.proofs.lemmas.Option.{slice_get_read}
use Rattle.fib_entries_rows.proofs.Loopings.{flat_step, flat_whole}
use Rattle.fib_follow_part.proofs.seen.push_goals.Goals as goal

pub goals-preserved : goal.goals-preserved
goals-preserved c =
    flat_step option_to_list c.args.goals.now c.goals.place c.index-goals-place.result c.args.out.now.items c.goals.out.items c.push_goal.new.out.items
    (slice_get_read c.args.goals.now
    (length c.args.goals.now) c.goals.place c.index-goals-place.result refl c.goals-test.true c.index-goals-place.is) c.goals.invariant c.in_ok-push_goal.ensures

pub returns : goal.returns
returns c = let over = c.goals-test.false
    in flat_whole option_to_list c.args.goals.now c.goals.place c.args.out.now.items c.goals.out.items
    (omega (arith, over)) c.goals.invariant
