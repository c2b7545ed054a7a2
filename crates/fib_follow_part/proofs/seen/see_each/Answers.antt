use Rattle.std.proofs.Common.{arith, length, refl}
use Rattle.std.proofs.lemmas.Option.{slice_get_read}
use Rattle.fib_entries_rows.proofs.Loopings.{sees_none, sees_step, sees_whole}
use Rattle.fib_follow_part.proofs.seen.see_each.Goals as goal

pub list-init : goal.list-init
list-init c = sees_none c.args.list.now c.args.seen.now c.requires

pub list-preserved : goal.list-preserved
list-preserved c =
    sees_step c.args.list.now c.list.place c.index-list-place.result c.args.seen.now c.list.seen c.see.new.seen
    (slice_get_read c.args.list.now
    (length c.args.list.now) c.list.place c.index-list-place.result refl c.list-test.true c.index-list-place.is) c.list.invariant c.in_ok-see.ensures.seen

pub returns : goal.returns
returns c = let over = c.list-test.false in sees_whole c.args.list.now c.list.place c.args.seen.now c.list.seen (omega (arith, over)) c.list.invariant
