use Rattle.std.proofs.Common.{◌≡◌, List, [], map, refl, sym, ap, ◌∙◌, subst, length}
use Rattle.fib_core.specs.Union.{Retired as Copy}
use Rattle.fib_stack_queue.specs.Queues.{rank_in}
use Rattle.fib_stack_queue.specs.declared.order.Queued.{Queued}
use Rattle.fib_core_promise.specs.Stack.{is_some}
use Rattle.fib_plane.specs.Views.{copy_seen}
use Rattle.fib_stack.specs.Steps.{Retried}
use Rattle.fib_control.specs.Controls.{Control, Takes, had_turn, parts_in, rank_by, state_now, tables_in}
use Rattle.fib_control.proofs.Resting.{is_ranked}
use Rattle.fib_control.proofs.Turned.{beneath, empty_by, empty_from, order_same}
use Rattle.fib_control.proofs.control.Control.retry.Goals as goal

pub invariant_of-self : goal.invariant_of-self
invariant_of-self g c =
    let old : Control = record { setup = c.self.inside.config; entries = c.self.inside.entries; plane = c.self.inside.shared.plane; rows = c.self.inside.table.rows.members; plies = c.self.inside.table.plies; known = c.self.inside.stack.ledger.rows; late = c.self.inside.stack.late.members; queue = c.self.inside.queue.members; done = c.self.inside.done.items } in
    let new : Control = record old { plane = c.retry.new.on.plane; known = c.retry.new.self.ledger.rows; late = c.retry.new.self.late.members } in (
      beneath old new c.self.invariant.0 (record { setup = refl; entries = refl; promise = c.retry.ensures.promise })
          (c.retry.ensures.retried (tables_in old) (rank_by old) c.self.invariant.0.joined).joined
          (λ same. empty_from copy_seen c.retry.new.on.plane.board.union.retired (c.retry.ensures.retired ∙ ap (λ (xs : List Copy). map copy_seen xs) (c.self.invariant.0.calm same)))
          (λ begun. (c.retry.ensures.room (tables_in old)).left (c.self.invariant.0.roomy begun))
          (order_same (rank_by old) (state_now old) (state_now new) (had_turn old) (had_turn new) (λ d. refl) (λ d. refl) c.self.invariant.0.ordered)
          c.self.invariant.0.once,
      c.self.invariant.1,
    )

pub returns-clause-calm : goal.returns-clause-calm
returns-clause-calm g c = λ queue retired.
    let old : Control = record { setup = c.self.inside.config; entries = c.self.inside.entries; plane = c.self.inside.shared.plane; rows = c.self.inside.table.rows.members; plies = c.self.inside.table.plies; known = c.self.inside.stack.ledger.rows; late = c.self.inside.stack.late.members; queue = c.self.inside.queue.members; done = c.self.inside.done.items } in
    let queued : c.self.inside.queue.members ≡ [] = ap (λ (x : Control). x.queue) c.self.view_is ∙ queue in
    let gone : c.self.inside.shared.plane.board.union.retired ≡ [] = ap (λ (x : Control). x.plane.board.union.retired) c.self.view_is ∙ retired in
    let none : c.retry.result ≡ 0 = c.retry.ensures.calm (tables_in old) (rank_by old) c.self.invariant.0.joined (is_ranked old c.self.invariant.0)
    (λ e. ap (λ (xs : List Queued). is_some (rank_in xs e)) queued) (ap (λ (xs : List Copy). map copy_seen xs) gone) in (
      none,
      record {
        queued = queued;
        deferred = empty_by _ _ c.retry.ensures.left none;
        retired = empty_from copy_seen c.retry.new.on.plane.board.union.retired (c.retry.ensures.retired ∙ ap (λ (xs : List Copy). map copy_seen xs) gone);
      },
    )

pub returns-clause-retried : goal.returns-clause-retried
returns-clause-retried g c =
    let old : Control = record { setup = c.self.inside.config; entries = c.self.inside.entries; plane = c.self.inside.shared.plane; rows = c.self.inside.table.rows.members; plies = c.self.inside.table.plies; known = c.self.inside.stack.ledger.rows; late = c.self.inside.stack.late.members; queue = c.self.inside.queue.members; done = c.self.inside.done.items } in
    let new : Control = record old { plane = c.retry.new.on.plane; known = c.retry.new.self.ledger.rows; late = c.retry.new.self.late.members } in
    subst (λ (x : Control). Retried (state_now x) (state_now new)) c.self.view_is (c.retry.ensures.retried (tables_in old) (rank_by old) c.self.invariant.0.joined).retried

pub returns-clause-takes : goal.returns-clause-takes
returns-clause-takes g c =
    let old : Control = record { setup = c.self.inside.config; entries = c.self.inside.entries; plane = c.self.inside.shared.plane; rows = c.self.inside.table.rows.members; plies = c.self.inside.table.plies; known = c.self.inside.stack.ledger.rows; late = c.self.inside.stack.late.members; queue = c.self.inside.queue.members; done = c.self.inside.done.items } in
    let new : Control = record old { plane = c.retry.new.on.plane; known = c.retry.new.self.ledger.rows; late = c.retry.new.self.late.members } in
    subst (λ (x : Control). Takes x new) c.self.view_is (c.retry.ensures.room (tables_in old)).takes
