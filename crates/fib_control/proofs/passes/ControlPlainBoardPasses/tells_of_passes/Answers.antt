use Rattle.std.proofs.Common.{◌≡◌, ℕ, subst}
use Rattle.std.specs.Prelude.{Some}
use Rattle.fib_core_board.specs.Boards.{Pass}
use Rattle.fib_core_plainboard.specs.Passes.{IsAlong, pass_of}
use Rattle.fib_control.specs.Controls.{Control}
use Rattle.fib_control.proofs.passes.ControlPlainBoardPasses.tells_of_passes.Goals as goal

pub returns : goal.returns
returns c = subst (λ (k : Control). (n : ℕ) (q : Pass) → pass_of k.plane.board n ≡ Some q → IsAlong k.plane.board q.loads) c.self.view_is c.tells_of_passes.ensures
