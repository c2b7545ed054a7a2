use Rattle.std.proofs.Common.{ap, subst, arith}
use Rattle.fib_plane_view.specs.Promise.{Promise}
use Rattle.fib_plane_view.specs.View.{View}
use Rattle.fib_stack_ledger.proofs.Books.{times_within}
use Rattle.fib_stack.specs.Joined.{Joined, in_change}
use Rattle.fib_stack.specs.Moments.{moment, parts_of}
use Rattle.fib_stack_ledger.specs.Deferred.{late_at}
use Rattle.fib_stack.proofs.Deferring.{none_late}
use Rattle.fib_stack.proofs.Moving.{moved_joined, room_moved, roomy_leaving, roomy_removed}
use Rattle.fib_stack.proofs.Readying.{room_quiet, room_same}
use Rattle.fib_stack.proofs.turn.drop_out.Goals as goal

pub leave-requires-clause-left : goal.leave-requires-clause-left
leave-requires-clause-left g c =
    let l = c.requires.left in
    let s = parts_of c.args.table.now c.args.stack.now c.args.queue.now in
    let p = g.P.Objects.promise c.args.on.now in
    let q = g.P.Objects.promise c.room.new.on in
    let u = g.P.Objects.view c.args.on.now in
    let v = g.P.Objects.view c.room.new.on in (
      l.0,
      l.1,
      roomy_leaving l.0 l.1 p q u v s c.args.entry c.room.ensures.promise c.room.ensures.same
          (g.met.P.Objects.sound c.room.new.on) (λ d r. times_within c.args.stack.now.ledger.rows d r) l.2,
    )

pub leave-requires-clause-spare : goal.leave-requires-clause-spare
leave-requires-clause-spare g c = let r = c.in-Ok.ensures.room in omega (arith, r)

pub returns-clause-turn : goal.returns-clause-turn
returns-clause-turn g c = λ S rank h.
    let s = parts_of c.args.table.now c.args.stack.now c.args.queue.now in
    let p = g.P.Objects.promise c.args.on.now in
    let q = g.P.Objects.promise c.room.new.on in
    let u = g.P.Objects.view c.args.on.now in
    let v = g.P.Objects.view c.room.new.on in
    roomy_removed u v s c.args.entry _ c.room.ensures.same
    (c.leave.ensures.turn S rank
    (roomy_leaving S rank p q u v s c.args.entry c.room.ensures.promise c.room.ensures.same
    (g.met.P.Objects.sound c.room.new.on) (λ d r. times_within c.args.stack.now.ledger.rows d r) h)).turn

pub returns-clause-joined : goal.returns-clause-joined
returns-clause-joined g c = λ S rank h.
    let s = parts_of c.args.table.now c.args.stack.now c.args.queue.now in
    let p = g.P.Objects.promise c.args.on.now in
    let q = g.P.Objects.promise c.room.new.on in
    let u = g.P.Objects.view c.args.on.now in
    let v = g.P.Objects.view c.room.new.on in
    let after = moment (g.P.Objects.view c.leave.new.on) c.leave.new.table c.leave.new.stack c.leave.new.queue in
    subst (λ (r : Promise). Joined S rank r after.view after.parts) c.room.ensures.promise
    (c.leave.ensures.turn S rank
    (roomy_leaving S rank p q u v s c.args.entry c.room.ensures.promise c.room.ensures.same
    (g.met.P.Objects.sound c.room.new.on) (λ d r. times_within c.args.stack.now.ledger.rows d r) h)).joined

pub returns-clause-count : goal.returns-clause-count
returns-clause-count g c = none_late (late_at c.leave.new.stack.late.members c.args.entry) 16 c.leave.ensures.clear

pub returns-clause-stored : goal.returns-clause-stored
returns-clause-stored g c = let r = (room_same (g.P.Objects.view c.args.on.now) (g.P.Objects.view c.room.new.on) c.room.ensures.same).stored in omega (arith, r, c.leave.ensures.stored)

pub returns-in_default-clause-err : goal.returns-in_default-clause-err
returns-in_default-clause-err g c = room_same _ _ c.room.ensures.same

pub returns-in_default-clause-quiet : goal.returns-in_default-clause-quiet
returns-in_default-clause-quiet g c = room_quiet _ _ c.room.ensures.same

pub returns-in_default-clause-joined : goal.returns-in_default-clause-joined
returns-in_default-clause-joined g c = λ S rank h.
    let s = parts_of c.args.table.now c.args.stack.now c.args.queue.now in
    let u = g.P.Objects.view c.args.on.now in
    let v = g.P.Objects.view c.room.new.on in
    moved_joined S rank (g.P.Objects.promise c.args.on.now) u v s h.joined (room_moved _ u v c.room.ensures.same) (g.met.P.Objects.sound c.room.new.on) (λ d r. times_within c.args.stack.now.ledger.rows d r)

pub returns-clause-free : goal.returns-clause-free
returns-clause-free g c = let r = ap (λ (w : View). w.free) c.room.ensures.same.same in omega (arith, r, c.leave.ensures.free)

pub room-requires : goal.room-requires
room-requires g c = record { stands = (in_change (g.P.Objects.promise c.args.on.now), c.requires.left.2.joined.table) }
