use Rattle.std.proofs.Common.{sym, subst, ◌≤◌, arith}
use Rattle.fib_plane_view.specs.Promise.{Promise}
use Rattle.fib_ply.specs.Tables.{Stands}
use Rattle.fib_stack.proofs.Finishing.{on_any, on_ok}
use Rattle.fib_control_quiet.proofs.Early.{same_stands}
use Rattle.fib_control.proofs.beginning.room_for_one.Goals as goal

pub room-requires : goal.room-requires
room-requires g c =
    record { stands = (g.P.Objects.promise c.args.on.now, same_stands (g.P.Objects.promise c.args.on.now) c.args.table.now c.reserve.new.self (g.P.Objects.view c.args.on.now) c.in_ok-reserve.ensures.members c.in_ok-reserve.ensures.plies c.requires.tried.stands) }

pub returns-clause-stands : goal.returns-clause-stands
returns-clause-stands g c =
    let p = g.P.Objects.promise c.args.on.now in
    on_any c.room.result (subst (λ (q : Promise). Stands q c.reserve.new.self (g.P.Objects.view c.room.new.on)) (sym c.room.ensures.promise)
    (c.room.ensures.stands p (same_stands p c.args.table.now c.reserve.new.self (g.P.Objects.view c.args.on.now) c.in_ok-reserve.ensures.members c.in_ok-reserve.ensures.plies c.requires.tried.stands)))

pub returns-clause-spare : goal.returns-clause-spare
returns-clause-spare g c = on_ok c.room.result (λ room. omega (arith, room)) c.room.ensures.room
