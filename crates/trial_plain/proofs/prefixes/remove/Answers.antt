use Rattle.std.proofs.Common.{arith, ◌∙◌, ◌≤◌, subst, sym}
use Rattle.fib_plane_view.specs.Promise.{Promise}
use Rattle.fib_ply.specs.Tables.{Stands}
use Rattle.fib_control_quiet.proofs.Early.{not_begun, still_early}
use Rattle.trial_plain.proofs.prefixes.remove.Goals as goal

pub room-requires : goal.room-requires
room-requires g c = record { stands = (g.P.Objects.promise c.args.on.now, c.requires.stands) }

pub remove-requires-clause-stands : goal.remove-requires-clause-stands
remove-requires-clause-stands g c =
    subst (λ (p : Promise). Stands p c.args.table.now (g.P.Objects.view c.room.new.on)) (sym c.in_ok-room.ensures.promise) (c.in_ok-room.ensures.stands (g.P.Objects.promise c.args.on.now) c.requires.stands)

pub remove-requires-clause-fits : goal.remove-requires-clause-fits
remove-requires-clause-fits g c = λ b. absurd (not_begun (g.P.Objects.promise c.room.new.on) (still_early (g.P.Objects.promise c.args.on.now) (g.P.Objects.promise c.room.new.on) c.in_ok-room.ensures.promise c.requires.early) b)

pub remove-requires-clause-leaves : goal.remove-requires-clause-leaves
remove-requires-clause-leaves g c = λ b. absurd (not_begun (g.P.Objects.promise c.room.new.on) (still_early (g.P.Objects.promise c.args.on.now) (g.P.Objects.promise c.room.new.on) c.in_ok-room.ensures.promise c.requires.early) b)

pub remove-requires-clause-spare : goal.remove-requires-clause-spare
remove-requires-clause-spare g c = (let room = c.in_ok-room.ensures.room in omega arith)

pub returns : goal.returns
returns g c = record {
  early = still_early (g.P.Objects.promise c.args.on.now) (g.P.Objects.promise c.remove.new.on) (c.remove.ensures.promise ∙ c.in_ok-room.ensures.promise) c.requires.early;
  stands = c.remove.ensures.stands;
}
