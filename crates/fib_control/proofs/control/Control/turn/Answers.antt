use Rattle.std.proofs.Common.{◌≡◌, ◌<◌, List, refl, sym, ap, ◌∙◌, subst, arith}
use Rattle.std.specs.Prelude.{Err}
use Rattle.fib_addr.specs.Prefixes.{Prefix}
use Rattle.fib_reach.specs.Walks.{AllDiffer}
use Rattle.fib_stack.specs.Done.{IsStored, RunDone, StoresDiffering, TurnDone}
use Rattle.fib_ply.specs.Rows.{held}
use Rattle.fib_stack.specs.Joined.{Parts}
use Rattle.fib_stack_queue.specs.Queues.{rank_in}
use Rattle.fib_core_promise.specs.Stack.{is_some}
use Rattle.fib_stack_waking.specs.Waking.{is_among}
use Rattle.fib_control.specs.Controls.{Control, IsDoneAfter, Takes, had_turn, noted, parts_in, rank_by, state_now, tables_in, view_in}
use Rattle.fib_control.proofs.Resting.{is_ranked}
use Rattle.fib_control.proofs.Turned.{beneath, busy_waits, noted_after, order_same, turned_once, turned_order}
use Rattle.fib_control.proofs.control.Control.turn.Goals as goal

pub invariant_of-self-in-Ok : goal.invariant_of-self-in-Ok
invariant_of-self-in-Ok g c =
    let old : Control = record { setup = c.self.inside.config; entries = c.self.inside.entries; plane = c.self.inside.shared.plane; rows = c.self.inside.table.rows.members; plies = c.self.inside.table.plies; known = c.self.inside.stack.ledger.rows; late = c.self.inside.stack.late.members; queue = c.self.inside.queue.members; done = c.self.inside.done.items } in
    let new : Control = record { setup = c.self.inside.config; entries = c.self.inside.entries; plane = c.restack.new.shared.plane; rows = c.restack.new.table.rows.members; plies = c.restack.new.table.plies; known = c.restack.new.stack.ledger.rows; late = c.restack.new.stack.late.members; queue = c.restack.new.queue.members; done = c.note.new.done.items } in
    let i = c.self.invariant.0 in
    let e = c.in-Ok.ensures in
    let waits = busy_waits old i c.len.result c.len.ensures c.if-len-eq0.false in
    let noted_now : c.note.new.done.items ≡ noted c.in-Ok.turn c.self.inside.done.items = c.note.ensures ∙ ap (noted c.in-Ok.turn) c.reserve.ensures.items in
    let after : IsDoneAfter c.in-Ok.turn c.self.inside.done.items c.note.new.done.items =
    noted_after (tables_in old) (rank_by old) c.in-Ok.turn (state_now old) (state_now new) c.self.inside.done.items c.note.new.done.items e.turn.state i.ordered noted_now in (
      beneath old new i (record { setup = refl; entries = refl; promise = e.promise })
          e.leaves.joined
          (λ same. absurd (omega (arith, waits, same)))
          (λ begun. e.leaves.room.left (i.roomy begun))
          (turned_order (tables_in old) (rank_by old) c.in-Ok.turn (state_now old) (state_now new) c.self.inside.done.items c.note.new.done.items (is_ranked old i) e.turn.state i.ordered after)
          (turned_once c.in-Ok.turn c.self.inside.done.items c.note.new.done.items after i.once),
      c.self.invariant.1,
    )

pub invariant_of-self-in-Err : goal.invariant_of-self-in-Err
invariant_of-self-in-Err g c =
    let old : Control = record { setup = c.self.inside.config; entries = c.self.inside.entries; plane = c.self.inside.shared.plane; rows = c.self.inside.table.rows.members; plies = c.self.inside.table.plies; known = c.self.inside.stack.ledger.rows; late = c.self.inside.stack.late.members; queue = c.self.inside.queue.members; done = c.self.inside.done.items } in
    let new : Control = record { setup = c.self.inside.config; entries = c.self.inside.entries; plane = c.restack.new.shared.plane; rows = c.restack.new.table.rows.members; plies = c.restack.new.table.plies; known = c.restack.new.stack.ledger.rows; late = c.restack.new.stack.late.members; queue = c.restack.new.queue.members; done = c.reserve.new.self.items } in
    let i = c.self.invariant.0 in
    let e = c.in-Err.ensures in
    let waits = busy_waits old i c.len.result c.len.ensures c.if-len-eq0.false in (
      beneath old new i (record { setup = refl; entries = refl; promise = e.promise })
          e.leaves.joined
          (λ same. absurd (omega (arith, waits, same)))
          (λ begun. e.leaves.room.left (i.roomy begun))
          (order_same (rank_by old) (state_now old) (state_now new) (had_turn old) (had_turn new) (λ d. ap (λ (s : Parts). is_some (rank_in s.queue d)) e.parts) (λ d. ap (λ (xs : List Prefix). is_among xs d) c.reserve.ensures.items) i.ordered)
          (subst AllDiffer (sym c.reserve.ensures.items) i.once),
      c.self.invariant.1,
    )

pub returns-in-Ok-clause-turn : goal.returns-in-Ok-clause-turn
returns-in-Ok-clause-turn g c =
    let new : Control = record { setup = c.self.inside.config; entries = c.self.inside.entries; plane = c.restack.new.shared.plane; rows = c.restack.new.table.rows.members; plies = c.restack.new.table.plies; known = c.restack.new.stack.ledger.rows; late = c.restack.new.stack.late.members; queue = c.restack.new.queue.members; done = c.note.new.done.items } in
    subst (λ (x : Control). TurnDone (tables_in x) (rank_by x) c.in-Ok.turn (state_now x) (state_now new)) c.self.view_is c.in-Ok.ensures.turn.state

pub memory_of-requires : goal.memory_of-requires
memory_of-requires g c =
    let old : Control = record { setup = c.self.inside.config; entries = c.self.inside.entries; plane = c.self.inside.shared.plane; rows = c.self.inside.table.rows.members; plies = c.self.inside.table.plies; known = c.self.inside.stack.ledger.rows; late = c.self.inside.stack.late.members; queue = c.self.inside.queue.members; done = c.self.inside.done.items } in
    let waits = busy_waits old c.self.invariant.0 c.len.result c.len.ensures c.if-len-eq0.false in
    λ is. c.in-Err.ensures.leaves.finds (c.self.invariant.0.roomy (omega (arith, waits))) (ap (λ w. Err w) is)

pub returns-in-Ok-clause-takes : goal.returns-in-Ok-clause-takes
returns-in-Ok-clause-takes g c =
    let new : Control = record { setup = c.self.inside.config; entries = c.self.inside.entries; plane = c.restack.new.shared.plane; rows = c.restack.new.table.rows.members; plies = c.restack.new.table.plies; known = c.restack.new.stack.ledger.rows; late = c.restack.new.stack.late.members; queue = c.restack.new.queue.members; done = c.note.new.done.items } in
    subst (λ (x : Control). Takes x new) c.self.view_is c.restack.ensures.leaves.room.takes

pub returns-in-Err-clause-takes : goal.returns-in-Err-clause-takes
returns-in-Err-clause-takes g c =
    let new : Control = record { setup = c.self.inside.config; entries = c.self.inside.entries; plane = c.restack.new.shared.plane; rows = c.restack.new.table.rows.members; plies = c.restack.new.table.plies; known = c.restack.new.stack.ledger.rows; late = c.restack.new.stack.late.members; queue = c.restack.new.queue.members; done = c.reserve.new.self.items } in
    subst (λ (x : Control). Takes x new) c.self.view_is c.restack.ensures.leaves.room.takes

pub returns-in-Ok-clause-run : goal.returns-in-Ok-clause-run
returns-in-Ok-clause-run g c =
    let new : Control = record { setup = c.self.inside.config; entries = c.self.inside.entries; plane = c.restack.new.shared.plane; rows = c.restack.new.table.rows.members; plies = c.restack.new.table.plies; known = c.restack.new.stack.ledger.rows; late = c.restack.new.stack.late.members; queue = c.restack.new.queue.members; done = c.note.new.done.items } in
    subst (λ (x : Control). RunDone (tables_in x) c.in-Ok.turn (view_in x) (view_in new) (state_now new)) c.self.view_is c.in-Ok.ensures.turn.run

pub returns-in-Ok-clause-exact : goal.returns-in-Ok-clause-exact
returns-in-Ok-clause-exact g c =
    let new : Control = record { setup = c.self.inside.config; entries = c.self.inside.entries; plane = c.restack.new.shared.plane; rows = c.restack.new.table.rows.members; plies = c.restack.new.table.plies; known = c.restack.new.stack.ledger.rows; late = c.restack.new.stack.late.members; queue = c.restack.new.queue.members; done = c.note.new.done.items } in
    subst (λ (x : Control). StoresDiffering (tables_in x) c.in-Ok.turn (held x.rows) (view_in x) (view_in new)) c.self.view_is c.in-Ok.ensures.turn.exact

pub returns-in-Ok-clause-dropped : goal.returns-in-Ok-clause-dropped
returns-in-Ok-clause-dropped g c = c.in-Ok.ensures.turn.dropped

pub returns-in-Ok-clause-stores : goal.returns-in-Ok-clause-stores
returns-in-Ok-clause-stores g c =
    subst (λ (x : Control). IsStored c.in-Ok.turn x.plane.board.stored c.restack.new.shared.plane.board.stored) c.self.view_is c.in-Ok.ensures.turn.stores
