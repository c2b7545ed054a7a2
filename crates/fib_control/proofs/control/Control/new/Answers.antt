use Rattle.std.proofs.Common.{◌≡◌, ◌∷◌, [], ◌/◌, ℕ, ◌-◌, ◌≤◌, arith, map, refl, sym, ap, ◌∙◌, subst}
use Rattle.fib_addr.specs.Longest.{everything}
use Rattle.fib_resolve.specs.Tables.{fresh}
use Rattle.fib_config.specs.Config.{Setup}
use Rattle.fib_entries_rows.specs.Known.{prefix_of}
use Rattle.fib_core_board.specs.Boards.{Board}
use Rattle.fib_plane_view.specs.Promise.{Promise}
use Rattle.fib_control_quiet.proofs.Early.{tried_clear}
use Rattle.fib_plane.specs.Views.{copy_seen, promise_of, view_of}
use Rattle.fib_control.specs.Controls.{Control}
use Rattle.fib_control.specs.inner.Starting.{IsStarted}
use Rattle.fib_control.proofs.Born.{born, born_like, fresh_free}
use Rattle.fib_control.proofs.Turned.{empty_from}
use Rattle.fib_control.proofs.control.Control.new.Goals as goal

pub first_table-requires-clause-free : goal.first_table-requires-clause-free
first_table-requires-clause-free g c =
    let least = c.tells.ensures.limits.least in
    let free = fresh_free c.in_ok-shared.shared.plane.objects (g.B.Board.view c.args.board).objects c.in_ok-shared.ensures.objects (omega (arith, least)) in
    omega (arith, least, free)

pub scan-requires : goal.scan-requires
scan-requires g c = tried_clear (promise_of c.first_table.new.on.plane.board) c.in_ok-table.table (view_of c.first_table.new.on.plane) c.in_ok-table.ensures.started.tried

pub invariant_of-result : goal.invariant_of-result
invariant_of-result g c =
    let b : Board = g.B.Board.view c.args.board in
    let started = c.in_ok-table.ensures.started in
    let setup : c.in_ok-config.config ≡ record { tables = fresh; room = b.objects / 2 } = c.in_ok-config.ensures ∙ ap (λ (o : ℕ). (let s : Setup = record { tables = fresh; room = o / 2 } in s)) c.objects-room.ensures in (
      born_like c.in_ok-config.config c.in_ok-entries.entries c.scan.new.self.plane c.in_ok-table.table.rows.members c.in_ok-table.table.plies c.new-4.result.ledger.rows c.new-4.result.late.members c.new-5.result.members c.new-6.result.items
          c.new-4.ensures.known c.new-4.ensures.late c.new-5.ensures.members c.new-6.ensures.items
          (born b c.requires c.in_ok-config.config c.in_ok-entries.entries c.scan.new.self.plane c.in_ok-table.table (view_of c.first_table.new.on.plane) c.scan.result
          c.tells.ensures.limits.least c.tells.ensures.limits.most setup c.in_ok-entries.ensures
          (c.scan.ensures.promise ∙ c.in_ok-table.ensures.promise ∙ ap promise_of c.in_ok-shared.ensures.board)
          (ap (λ (x : Board). x.log.version.settled) c.requires.fresh)
          (subst (λ (p : Promise). IsStarted p c.in_ok-table.table (view_of c.first_table.new.on.plane) (everything ∷ map prefix_of c.in_ok-entries.entries.rows)) (sym c.scan.ensures.promise) started)
          c.scan.new.self.sound c.scan.ensures.scanned
          (empty_from copy_seen c.scan.new.self.plane.board.union.retired (c.scan.ensures.alone started.tried.early.alone))),
      sym (ap (λ (s : Setup). s.room) c.in_ok-config.ensures),
    )

pub returns-clause-quiet : goal.returns-clause-quiet
returns-clause-quiet g c = record {
  queued = c.new-5.ensures.members;
  deferred = c.new-4.ensures.late;
  retired = empty_from copy_seen c.scan.new.self.plane.board.union.retired (c.scan.ensures.alone c.in_ok-table.ensures.started.tried.early.alone);
}
