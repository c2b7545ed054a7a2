use Rattle.std.proofs.Common.{arith, length, refl, sym, subst, take}
use Rattle.std.proofs.lemmas.Option.{slice_get_read}
use Rattle.fib_base_interned.proofs.Finding.{contains_at}
use Rattle.fib_cover.proofs.Sets.{take_whole}
use Rattle.fib_follow_looked.proofs.Asking.{AsksAmong, asks_none, asks_step, asks_whole}
use Rattle.fib_follow_looked.proofs.ask.asks_of.Goals as goal

pub turned-init : goal.turned-init
turned-init c = λ S T h are. subst (AsksAmong S T (take 0 c.args.turned.now)) (sym c.new-out.ensures.items) (asks_none S T c.args.turned.now)

pub turned-preserved : goal.turned-preserved
turned-preserved c = λ S T h are.
    let here = slice_get_read c.args.turned.now
    (length c.args.turned.now) c.turned.place c.index-turned-place.result refl c.turned-test.true c.index-turned-place.is in
    asks_step S T c.args.turned.now c.turned.place c.index-turned-place.result c.ask_of.result c.turned.out.items c.push_ask.new.out.items here
    (c.turned.invariant S T h are)
    (λ x. c.ask_of.ensures S T h ((are c.index-turned-place.result).0 (contains_at c.args.turned.now c.turned.place c.index-turned-place.result here)) x)
    c.in_ok-push_ask.ensures

pub returns : goal.returns
returns c = λ S T h are.
    let over = c.turned-test.false in
    asks_whole S T c.args.turned.now c.turned.out.items are
    (subst (λ l. AsksAmong S T l c.turned.out.items) (take_whole c.args.turned.now c.turned.place (omega (arith, over))) (c.turned.invariant S T h are))
