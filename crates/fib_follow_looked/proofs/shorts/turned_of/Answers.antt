use Rattle.std.proofs.Common.{arith, length, refl, sym, subst, take}
use Rattle.std.proofs.lemmas.Option.{slice_get_read}
use Rattle.fib_cover.proofs.Sets.{take_whole}
use Rattle.fib_follow_looked.proofs.Turning.{TurnsAmong, turns_none, turns_step}
use Rattle.fib_follow_looked.proofs.shorts.turned_of.Goals as goal

pub named-init : goal.named-init
named-init c = λ S h. subst (TurnsAmong S c.args.after.now.tables (take 0 c.args.named.now)) (sym c.new-out.ensures.items)
    (turns_none S c.args.after.now.tables c.args.named.now)

pub named-preserved : goal.named-preserved
named-preserved c = λ S h.
    turns_step S c.args.after.now.tables c.args.named.now c.named.place c.index-named-place.result c.in_ok-how.how c.named.out.items c.push_turn.new.out.items
    (slice_get_read c.args.named.now (length c.args.named.now) c.named.place c.index-named-place.result refl c.named-test.true c.index-named-place.is)
    (c.named.invariant S h) (λ t. c.in_ok-how.ensures S h t) c.in_ok-push_turn.ensures

pub returns : goal.returns
returns c = λ S h.
    let over = c.named-test.false in
    subst (λ l. TurnsAmong S c.args.after.now.tables l c.named.out.items) (take_whole c.args.named.now c.named.place (omega (arith, over)))
    (c.named.invariant S h)
