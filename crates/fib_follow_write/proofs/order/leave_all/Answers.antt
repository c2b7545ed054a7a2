use Rattle.std.proofs.Common.{arith, ◌+◌, take, subst}
use Rattle.std.proofs.lemmas.List.{take_all}
use Rattle.fib_follow_write.specs.Written.{HaveLeft}
use Rattle.fib_follow_write.proofs.Going.{members_more, members_stay}
use Rattle.fib_follow_write.proofs.Upon.{take_next}
use Rattle.fib_follow_write.proofs.order.leave_all.Goals as goal

pub order-init : goal.order-init
order-init c = members_stay c.args.order.now c.len-count.ensures.ordered

pub order-preserved : goal.order-preserved
order-preserved c =
    let x = c.index-prefixes-place.result in
    members_more (take c.order.place c.args.prefixes.now) (take (c.order.place + 1) c.args.prefixes.now) x c.args.order.now c.order.order c.remove.new.self
    (take_next c.args.prefixes.now c.order.place x c.order-test.true c.index-prefixes-place.is)
    c.order.invariant c.remove.ensures.ordered c.remove.ensures.members

pub returns : goal.returns
returns c = let over = c.order-test.false
    in subst (λ l. HaveLeft l c.args.order.now c.order.order) (take_all c.order.place c.args.prefixes.now (omega (arith, over))) c.order.invariant
