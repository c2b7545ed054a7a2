use Rattle.std.proofs.Common.{◌+◌, ◌<◌, ◌≤◌, subst}
use Rattle.fib_resolve.specs.Sizes.{size}
use Rattle.fib_stack.proofs.Twenty.{took_few}
use Rattle.fib_control.specs.Controls.{Control, Takes, parts_in, promise_in, rank_by, state_now, tables_in, view_in}
use Rattle.fib_control.proofs.control.Control.takes_few.Goals as goal

pub returns : goal.returns
returns g c =
    let old : Control = record { setup = c.self.inside.config; entries = c.self.inside.entries; plane = c.self.inside.shared.plane; rows = c.self.inside.table.rows.members; plies = c.self.inside.table.plies; known = c.self.inside.stack.ledger.rows; late = c.self.inside.stack.late.members; queue = c.self.inside.queue.members; done = c.self.inside.done.items } in
    subst (λ (x : Control). (d : Control) → 0 < x.plane.board.log.version.applied → Takes x d → (view_in x).free + 20 ≤ (view_in d).free + size (tables_in x)) c.self.view_is
    (λ d begun took. took_few (tables_in old) (rank_by old) (promise_in old) (view_in old) (parts_in old) c.self.invariant.0.joined begun (state_now d) (view_in old).free (view_in d).free took)
