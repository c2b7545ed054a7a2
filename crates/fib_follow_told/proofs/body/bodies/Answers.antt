use Rattle.std.proofs.Common.{arith, [], length, refl, subst, sym}
use Rattle.std.proofs.lemmas.Option.{slice_get_read}
use Rattle.fib_follow_told.specs.Told.{AreBodies}
use Rattle.fib_follow_told.proofs.Marking.{bodies_none, bodies_step, bodies_whole}
use Rattle.fib_follow_told.proofs.body.bodies.Goals as goal

pub list-init : goal.list-init
list-init c = λ S h part. subst (AreBodies c.args.config.now.tables []) (sym c.new-out.ensures) (bodies_none c.args.config.now.tables)

pub list-preserved : goal.list-preserved
list-preserved c = λ S h part.
    let list = c.args.list.now in
    let made = c.in_ok-body_of.ensures in
    bodies_step c.args.config.now.tables list c.list.place c.index-list-place.result c.in_ok-body_of.field-0 c.list.out c.push.new.self
    (slice_get_read list (length list) c.list.place c.index-list-place.result refl c.list-test.true c.index-list-place.is)
    (c.list.invariant S h part) made.prefix (made.body S h part) c.in_ok-push.ensures.ok

pub returns : goal.returns
returns c = λ S h part.
    let over = c.list-test.false in
    bodies_whole c.args.config.now.tables c.args.list.now c.list.place c.list.out (omega (arith, over)) (c.list.invariant S h part)
