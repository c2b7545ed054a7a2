use Rattle.std.proofs.Common.{arith, refl, ◌∙◌, ◌≤◌, ap, subst, sym}
use Rattle.std.specs.Prelude.{List}
use Rattle.fib_plane_view.specs.Promise.{Promise}
use Rattle.fib_ply.specs.Rows.{held}
use Rattle.fib_ply.specs.Tables.{Stands}
use Rattle.fib_ply.specs.declared.rows.Row.{Row}
use Rattle.fib_control_quiet.proofs.Early.{not_begun, room_dropping, room_free, same_stands, still_early}
use Rattle.trial_plain.proofs.prefixes.add.Goals as goal

pub room-requires : goal.room-requires
room-requires g c = record { stands = (g.P.Objects.promise c.args.on.now, same_stands (g.P.Objects.promise c.args.on.now) c.args.table.now c.reserve.new.self (g.P.Objects.view c.args.on.now) c.in_ok-reserve.ensures.members c.in_ok-reserve.ensures.plies c.requires.tried.stands) }

pub add-requires-clause-stands : goal.add-requires-clause-stands
add-requires-clause-stands g c =
    subst (λ (p : Promise). Stands p c.reserve.new.self (g.P.Objects.view c.room.new.on)) (sym c.in_ok-room.ensures.promise) (c.in_ok-room.ensures.stands (g.P.Objects.promise c.args.on.now) (same_stands (g.P.Objects.promise c.args.on.now) c.args.table.now c.reserve.new.self (g.P.Objects.view c.args.on.now) c.in_ok-reserve.ensures.members c.in_ok-reserve.ensures.plies c.requires.tried.stands))

pub add-requires-clause-fits : goal.add-requires-clause-fits
add-requires-clause-fits g c = λ b. absurd (not_begun (g.P.Objects.promise c.room.new.on) (still_early (g.P.Objects.promise c.args.on.now) (g.P.Objects.promise c.room.new.on) c.in_ok-room.ensures.promise c.requires.tried.early) b)

pub add-requires-clause-prefix : goal.add-requires-clause-prefix
add-requires-clause-prefix g c = (c.if-not-may_add.ensures refl).0

pub add-requires-clause-absent : goal.add-requires-clause-absent
add-requires-clause-absent g c = ap (λ (rows : List Row). held rows c.args.prefix) c.in_ok-reserve.ensures.members ∙ (c.if-not-may_add.ensures refl).1

pub add-requires-clause-sometime : goal.add-requires-clause-sometime
add-requires-clause-sometime g c = λ b. absurd (not_begun (g.P.Objects.promise c.room.new.on) (still_early (g.P.Objects.promise c.args.on.now) (g.P.Objects.promise c.room.new.on) c.in_ok-room.ensures.promise c.requires.tried.early) b)

pub add-requires-clause-balance : goal.add-requires-clause-balance
add-requires-clause-balance g c = (let d = room_dropping (g.P.Objects.view c.args.on.now) (g.P.Objects.view c.room.new.on) c.args.object c.in_ok-room.ensures.same c.requires.balance in (d.0, λ z. d.1))

pub add-requires-clause-free : goal.add-requires-clause-free
add-requires-clause-free g c = (let may = c.if-not-may_add.ensures refl in let some = may.2 in let same = room_free (g.P.Objects.view c.args.on.now) (g.P.Objects.view c.room.new.on) c.in_ok-room.ensures.same in omega arith)

pub add-requires-clause-spare : goal.add-requires-clause-spare
add-requires-clause-spare g c = (let room = c.in_ok-room.ensures.room in omega (arith, room))

pub add-requires-clause-room : goal.add-requires-clause-room
add-requires-clause-room g c = c.in_ok-reserve.ensures.room

pub returns : goal.returns
returns g c = record {
  early = still_early (g.P.Objects.promise c.args.on.now) (g.P.Objects.promise c.add.new.on) (c.add.ensures.promise ∙ c.in_ok-room.ensures.promise) c.requires.tried.early;
  stands = c.add.ensures.stands;
}
