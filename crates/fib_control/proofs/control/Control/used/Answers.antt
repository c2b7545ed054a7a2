use Rattle.std.proofs.Common.{◌≡◌, ◌∙◌, [], subst}
use Rattle.fib_resolve.specs.Sizes.{size}
use Rattle.fib_control_quiet.specs.Rest.{IsAccounted}
use Rattle.fib_control.specs.Controls.{Control, IsQuiet, tables_in}
use Rattle.fib_control.proofs.Kept.{Tells, used_drained, used_quiet}
use Rattle.fib_control.proofs.control.Control.used.Goals as goal

pub returns-clause-quiet : goal.returns-clause-quiet
returns-clause-quiet g c =
    let old : Control = record { setup = c.self.inside.config; entries = c.self.inside.entries; plane = c.self.inside.shared.plane; rows = c.self.inside.table.rows.members; plies = c.self.inside.table.plies; known = c.self.inside.stack.ledger.rows; late = c.self.inside.stack.late.members; queue = c.self.inside.queue.members; done = c.self.inside.done.items } in
    let told : Tells old = record { plane = c.self.inside.shared.sound; told = c.tells.ensures.told; seen = c.tells.ensures.seen; rows = c.tells-2.ensures; used = c.tells-3.ensures } in
    subst (λ (x : Control). IsQuiet x → c.used.result ≡ size (tables_in x)) c.self.view_is
    (λ quiet. c.used.ensures ∙ used_quiet old c.self.invariant.0 told quiet)

pub returns-clause-counted : goal.returns-clause-counted
returns-clause-counted g c =
    let old : Control = record { setup = c.self.inside.config; entries = c.self.inside.entries; plane = c.self.inside.shared.plane; rows = c.self.inside.table.rows.members; plies = c.self.inside.table.plies; known = c.self.inside.stack.ledger.rows; late = c.self.inside.stack.late.members; queue = c.self.inside.queue.members; done = c.self.inside.done.items } in
    let told : Tells old = record { plane = c.self.inside.shared.sound; told = c.tells.ensures.told; seen = c.tells.ensures.seen; rows = c.tells-2.ensures; used = c.tells-3.ensures } in
    subst (λ (x : Control). x.queue ≡ [] → IsAccounted (tables_in x) x.plane) c.self.view_is (used_drained old c.self.invariant.0 told)
