use Rattle.std.proofs.Common.{◌≡◌, ◌-◌, ◌^◌, ◌<◌, ◌≤◌, ℕ, refl, sym, ap, ◌∙◌, subst, arith}
use Rattle.fib_resolve.specs.declared.types.Tables.{Tables}
use Rattle.fib_config.specs.Config.{Setup}
use Rattle.fib_core_board.specs.Boards.{board_begun}
use Rattle.fib_plane.specs.Planes.{Plane}
use Rattle.fib_control.specs.Controls.{Control, IsQuiet, tables_in}
use Rattle.fib_control.proofs.Kept.{Tells, changed_like, changed_standing, may_begin, never_crowded}
use Rattle.fib_control.proofs.Telling.{not_crowded_batch}
use Rattle.fib_control.proofs.control.Control.apply_all.Goals as goal

pub begin_version-requires : goal.begin_version-requires
begin_version-requires g c =
    let old : Control = record { setup = c.self.inside.config; entries = c.self.inside.entries; plane = c.self.inside.shared.plane; rows = c.self.inside.table.rows.members; plies = c.self.inside.table.plies; known = c.self.inside.stack.ledger.rows; late = c.self.inside.stack.late.members; queue = c.self.inside.queue.members; done = c.self.inside.done.items } in
    may_begin old c.self.invariant.0
    (record { plane = c.self.inside.shared.sound; told = c.tells.ensures.told; seen = c.tells.ensures.seen; rows = c.tells-2.ensures; used = c.tells-3.ensures })
    c.tables.result.now c.tables.ensures.sound
    (subst (λ (x : Control). x.plane.board.log.version.applied < 2 ^ 32 - 1) (sym c.self.view_is) c.requires.version)

pub invariant_of-self-2 : goal.invariant_of-self-2
invariant_of-self-2 g c =
    let old : Control = record { setup = c.self.inside.config; entries = c.self.inside.entries; plane = c.self.inside.shared.plane; rows = c.self.inside.table.rows.members; plies = c.self.inside.table.plies; known = c.self.inside.stack.ledger.rows; late = c.self.inside.stack.late.members; queue = c.self.inside.queue.members; done = c.self.inside.done.items } in
    let told : Tells old = record { plane = c.self.inside.shared.sound; told = c.tells.ensures.told; seen = c.tells.ensures.seen; rows = c.tells-2.ensures; used = c.tells-3.ensures } in
    let e = c.in-Ok.ensures in
    let T = c.change_all.new.config.tables in
    let room : c.change_all.new.config.room ≡ c.self.inside.config.room = e.room in
    let few = c.self.invariant.1 in (
      changed_like old T c.change_all.new.entries c.change_all.new.queue.members c.change_all.new.config c.begin_version.new.self.plane c.clear.new.self.items
          (ap (λ (r : ℕ). (let s : Setup = record { tables = T; room = r } in s)) room)
          (c.begin_version.ensures ∙ ap (λ (S : Tables). (let p : Plane = record c.self.inside.shared.plane { board = board_begun c.self.inside.shared.plane.board S } in p)) c.tables.ensures.value)
          c.clear.ensures.items
          (changed_standing old c.self.invariant.0 told T c.change_all.new.entries c.change_all.new.queue.members e.stands e.queued
          (e.ranks (λ d r at. c.self.invariant.0.joined.ranked d r at)) (let f = e.fits.0 in omega (arith, f, few)) (let f = e.fits.1 in let free = c.free.ensures in omega (arith, f, free))),
      few ∙ sym room,
    )

pub returns-in-Err-clause-quiet : goal.returns-in-Err-clause-quiet
returns-in-Err-clause-quiet g c = λ quiet.
    let old : Control = record { setup = c.self.inside.config; entries = c.self.inside.entries; plane = c.self.inside.shared.plane; rows = c.self.inside.table.rows.members; plies = c.self.inside.table.plies; known = c.self.inside.stack.ledger.rows; late = c.self.inside.stack.late.members; queue = c.self.inside.queue.members; done = c.self.inside.done.items } in
    let told : Tells old = record { plane = c.self.inside.shared.sound; told = c.tells.ensures.told; seen = c.tells.ensures.seen; rows = c.tells-2.ensures; used = c.tells-3.ensures } in
    let few = c.self.invariant.1 in
    let free = c.free.ensures in
    let fits = c.self.invariant.0.fits in
    not_crowded_batch (tables_in old) (record { room = c.self.inside.room; free = c.free.result }) c.args.edits.now c.in-Err.error (omega (arith, fits, few)) c.in-Err.ensures.why
    (λ n within less. never_crowded old c.self.invariant.0 told (subst IsQuiet (sym c.self.view_is) quiet) n (omega (arith, within, few)) (omega (arith, less, free)))
