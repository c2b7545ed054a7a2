use Rattle.std.proofs.Common.{ap, ◌∙◌, ◌+◌, ◌≡◌, ◌≤◌, List, arith}
use Rattle.fib_plane_view.specs.View.{View}
use Rattle.fib_ply.specs.Rows.{held}
use Rattle.fib_ply.specs.declared.rows.Row.{Row}
use Rattle.fib_core_promise.specs.Matches.{added}
use Rattle.fib_control_quiet.proofs.Early.{tried_taken}
use Rattle.fib_control.proofs.Started.{same_free, started_more, went}
use Rattle.fib_control.proofs.beginning.add_new.Goals as goal

pub balance-object-requires : goal.balance-object-requires
balance-object-requires g c = let r = c.requires.started.1.roomy in let s = c.requires.started.3 in omega (arith, r, s)

pub room_for_one-requires : goal.room_for_one-requires
room_for_one-requires g c = record {
  tried = tried_taken (g.P.Objects.promise c.args.on.now) c.args.table.now (g.P.Objects.view c.args.on.now) c.requires.started.1.tried (g.P.Objects.promise c.balance-object.new.on) (g.P.Objects.view c.balance-object.new.on) c.balance-object.result
      (g.met.P.Objects.sound c.balance-object.new.on) c.balance-object.ensures.promise c.balance-object.ensures.taken;
}

pub add-requires-clause-free : goal.add-requires-clause-free
add-requires-clause-free g c =
    let r = c.requires.started.1.roomy in
    let s = c.requires.started.3 in
    let t = c.balance-object.ensures.taken.free in
    let h = same_free (g.P.Objects.view c.balance-object.new.on) (g.P.Objects.view c.room_for_one.new.on) c.in_ok-room_for_one.ensures.same in
    omega (arith, r, s, t, h)

pub returns-clause-started : goal.returns-clause-started
returns-clause-started g c = λ named i.
    let p = c.add.ensures.plies.1 in
    let m = c.in_ok-room_for_one.ensures.plies in
    let f = c.add.ensures.free in
    let t = c.balance-object.ensures.taken.free in
    let h = same_free (g.P.Objects.view c.balance-object.new.on) (g.P.Objects.view c.room_for_one.new.on) c.in_ok-room_for_one.ensures.same in
    started_more (g.P.Objects.promise c.args.on.now) (g.P.Objects.promise c.add.new.on) c.args.table.now c.add.new.self (g.P.Objects.view c.args.on.now) (g.P.Objects.view c.add.new.on) named c.args.prefix c.balance-object.result i
    (c.add.ensures.promise ∙ c.in_ok-room_for_one.ensures.promise ∙ c.balance-object.ensures.promise) c.add.ensures.stands
    (c.add.ensures.object ∙ ap (λ (rows : List Row). added (held rows) c.args.prefix c.balance-object.result) c.in_ok-room_for_one.ensures.members)
    (went (g.P.Objects.view c.args.on.now) (g.P.Objects.view c.balance-object.new.on) (g.P.Objects.view c.room_for_one.new.on) (g.P.Objects.view c.add.new.on) c.balance-object.result c.balance-object.ensures.taken c.in_ok-room_for_one.ensures.same c.add.ensures.beside)
    (omega (arith, p, m)) (omega (arith, f, t, h, m))
    c.requires.absent
