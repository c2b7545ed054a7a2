use Rattle.std.proofs.Common.{inl}
use Rattle.std.proofs.lemmas.Result.{on_ok_weaker}
use Rattle.fib_follow_looked.specs.inner.Turning.{near_inside}
use Rattle.fib_follow_looked.proofs.Growth.{adds_more}
use Rattle.fib_follow_looked.proofs.Nearing.{near_has, near_nothing, near_only}
use Rattle.fib_follow_looked.proofs.look.add_near.Goals as goal

pub returns-clause-more : goal.returns-clause-more
returns-clause-more c = on_ok_weaker c.add_inside.result
    (adds_more (near_inside c.args.after.now.tables c.args.turned.prefix c.in_ok-attached.attached) c.args.set.now c.add_inside.new.set) c.add_inside.ensures

pub returns-clause-near : goal.returns-clause-near
returns-clause-near c = on_ok_weaker c.add_inside.result
    (λ put. λ S h are. near_has c.args.after.now.tables c.args.turned c.in-Some.above c.args.set.now c.add_inside.new.set c.in_ok-attached.attached
    c.over.result c.in-Some.is
    c.in_ok-attached.ensures put (λ z k. (c.over.ensures S c.args.after.now.tables h are z).1 k)) c.add_inside.ensures

pub returns-in_default-clause-near : goal.returns-in_default-clause-near
returns-in_default-clause-near c = λ S h are.
    near_nothing c.args.after.now.tables c.args.turned c.args.set.now c.over.result c.in_default.is (λ z k. (c.over.ensures S
    c.args.after.now.tables h are z).1 k)

pub returns-clause-only : goal.returns-clause-only
returns-clause-only c = on_ok_weaker c.add_inside.result
    (λ put. λ S h are. near_only c.args.after.now.tables c.args.turned c.in-Some.above c.args.set.now c.add_inside.new.set c.in_ok-attached.attached
    ((c.over.ensures S c.args.after.now.tables h are c.in-Some.above).0 c.in-Some.is) c.in_ok-attached.ensures put) c.add_inside.ensures

pub returns-in_default-clause-only : goal.returns-in_default-clause-only
returns-in_default-clause-only c = λ S h are q k. inl k
