use Rattle.std.proofs.Common.{◌≡◌, ℕ, subst}
use Rattle.std.specs.Prelude.{Some}
use Rattle.fib_core_board.specs.Boards.{Pass}
use Rattle.fib_core_plainboard.specs.Passes.{IsAlong, pass_of}
use Rattle.fib_plane.specs.Views.{Whole}
use Rattle.fib_plane.proofs.passes.PlanePlainBoardPasses.tells_of_passes.Goals as goal

pub returns : goal.returns
returns c = subst (λ (w : Whole). (n : ℕ) (q : Pass) → pass_of w.plane.board n ≡ Some q → IsAlong w.plane.board q.loads) c.self.view_is c.tells_of_passes.ensures
