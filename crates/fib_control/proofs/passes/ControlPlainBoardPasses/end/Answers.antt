use Rattle.std.proofs.Common.{sym, subst}
use Rattle.fib_core_board.specs.Boards.{Board}
use Rattle.fib_core_plainboard.specs.Passes.{pass_ended}
use Rattle.fib_plane.specs.Planes.{Plane}
use Rattle.fib_core_results.specs.Steady.{IsSteady}
use Rattle.fib_control.specs.Controls.{Control}
use Rattle.fib_control.specs.inner.Standing.{IsStanding}
use Rattle.fib_control.proofs.Kept.{passed_standing}
use Rattle.fib_control.proofs.passes.ControlPlainBoardPasses.end.Goals as goal

pub invariant_of-self : goal.invariant_of-self
invariant_of-self c =
    let old : Control = record { setup = c.self.inside.config; entries = c.self.inside.entries; plane = c.self.inside.shared.plane; rows = c.self.inside.table.rows.members; plies = c.self.inside.table.plies; known = c.self.inside.stack.ledger.rows; late = c.self.inside.stack.late.members; queue = c.self.inside.queue.members; done = c.self.inside.done.items } in
    let b : Board = pass_ended c.self.inside.shared.plane.board c.args.worker in
    (subst (λ (p : Plane). IsStanding (record old { plane = p })) (sym c.end.ensures.pass) (passed_standing old b.out b.rests b.passes b.trails b.gathered c.self.invariant.0), c.self.invariant.1)

pub returns-clause-steady : goal.returns-clause-steady
returns-clause-steady c = subst (λ (x : Control). IsSteady x.plane.board.log.history c.end.result) c.self.view_is c.end.ensures.steady
