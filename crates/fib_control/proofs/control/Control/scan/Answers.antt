use Rattle.std.proofs.Common.{◌≡◌, ◌<◌, [], refl, sym, ap, ◌∙◌, subst, arith}
use Rattle.std.proofs.lemmas.List.{length-map}
use Rattle.fib_plane_view.specs.Promise.{Promise}
use Rattle.fib_stack_ledger.proofs.Books.{times_within}
use Rattle.fib_plane.specs.Planes.{Plane}
use Rattle.fib_plane.proofs.Scanning.{no_copies, scanned_nothing}
use Rattle.fib_plane.specs.Views.{copy_seen, promise_of, view_of}
use Rattle.fib_stack.specs.Joined.{Joined}
use Rattle.fib_stack.proofs.Moving.{moved_joined, scan_moved}
use Rattle.fib_stack.proofs.Rooming.{made_alike, room_left}
use Rattle.fib_control.specs.Controls.{ArePassed, Control, Takes, had_turn, parts_in, rank_by, state_now, tables_in, view_in}
use Rattle.fib_control.proofs.Taking.{takes_still}
use Rattle.fib_control.proofs.Turned.{beneath, may_clear_now, order_same, retired_waits}
use Rattle.fib_control.proofs.control.Control.scan.Goals as goal

pub scan-requires : goal.scan-requires
scan-requires g c = may_clear_now _ c.self.invariant.0 (retired_waits _ c.self.invariant.0 c.tells.ensures.told.board.history c.retired.result c.retired.ensures c.if-retired-eq0.false)

pub invariant_of-self : goal.invariant_of-self
invariant_of-self g c =
    let old : Control = record { setup = c.self.inside.config; entries = c.self.inside.entries; plane = c.self.inside.shared.plane; rows = c.self.inside.table.rows.members; plies = c.self.inside.table.plies; known = c.self.inside.stack.ledger.rows; late = c.self.inside.stack.late.members; queue = c.self.inside.queue.members; done = c.self.inside.done.items } in
    let new : Control = record old { plane = c.scan.new.self.plane } in
    let waits = retired_waits old c.self.invariant.0 c.tells.ensures.told.board.history c.retired.result c.retired.ensures c.if-retired-eq0.false in (
      beneath old new c.self.invariant.0 (record { setup = refl; entries = refl; promise = c.scan.ensures.promise })
          (subst (λ (p : Promise). Joined (tables_in old) (rank_by old) p (view_of c.scan.new.self.plane) (parts_in old)) (sym c.scan.ensures.promise)
          (moved_joined (tables_in old) (rank_by old) (promise_of c.self.inside.shared.plane.board) (view_of c.self.inside.shared.plane) (view_of c.scan.new.self.plane) (parts_in old) c.self.invariant.0.joined
          (scan_moved (promise_of c.self.inside.shared.plane.board) (view_of c.self.inside.shared.plane) (view_of c.scan.new.self.plane) c.scan.result c.scan.new.self.sound c.scan.ensures.scanned)
          c.scan.new.self.sound (λ d r. times_within c.self.inside.stack.ledger.rows d r)))
          (λ same. absurd (omega (arith, waits, same)))
          (λ begun. room_left (tables_in old) (state_now old) (state_now new) (view_in old).free (view_in new).free c.scan.ensures.scanned.swept.free (made_alike (tables_in old) (state_now old) (state_now new) refl refl) (c.self.invariant.0.roomy begun))
          (order_same (rank_by old) (state_now old) (state_now new) (had_turn old) (had_turn new) (λ d. refl) (λ d. refl) c.self.invariant.0.ordered)
          c.self.invariant.0.once,
      c.self.invariant.1,
    )

pub returns-clause-takes : goal.returns-clause-takes
returns-clause-takes g c =
    let old : Control = record { setup = c.self.inside.config; entries = c.self.inside.entries; plane = c.self.inside.shared.plane; rows = c.self.inside.table.rows.members; plies = c.self.inside.table.plies; known = c.self.inside.stack.ledger.rows; late = c.self.inside.stack.late.members; queue = c.self.inside.queue.members; done = c.self.inside.done.items } in
    let new : Control = record old { plane = c.scan.new.self.plane } in
    subst (λ (x : Control). Takes x new) c.self.view_is (takes_still old new refl refl c.scan.ensures.scanned.swept.free)

pub returns-then-retired-eq0-clause-copies : goal.returns-then-retired-eq0-clause-copies
returns-then-retired-eq0-clause-copies g c =
    let p : Plane = c.self.inside.shared.plane in
    let none : p.board.union.retired ≡ [] = no_copies p.board.union.retired c.retired.result c.if-retired-eq0.true (c.retired.ensures ∙ length-map p.board.union.retired copy_seen) in
    let s = scanned_nothing p none in
    subst (λ (x : Control). ArePassed x x) c.self.view_is (s.words, s.each, s.rests, s.copies)

pub returns-clause-copies : goal.returns-clause-copies
returns-clause-copies g c =
    let s = c.scan.ensures.plane in
    let new : Control = record { setup = c.self.inside.config; entries = c.self.inside.entries; plane = c.scan.new.self.plane; rows = c.self.inside.table.rows.members; plies = c.self.inside.table.plies; known = c.self.inside.stack.ledger.rows; late = c.self.inside.stack.late.members; queue = c.self.inside.queue.members; done = c.self.inside.done.items } in
    subst (λ (x : Control). ArePassed x new) c.self.view_is (s.words, s.each, s.rests, s.copies)
