use Rattle.std.proofs.Common.{◌≡◌, ℕ, subst}
use Rattle.std.specs.Prelude.{Some}
use Rattle.fib_core_board.specs.Boards.{Board, Pass}
use Rattle.fib_core_plainboard.specs.Passes.{IsAlong, pass_of}
use Rattle.fib_plane.proofs.passes.CountedPlainBoardPasses.tells_of_passes.Goals as goal

pub returns : goal.returns
returns c = subst (λ (b : Board). (n : ℕ) (q : Pass) → pass_of b n ≡ Some q → IsAlong b q.loads) c.self.view_is c.tells_of_passes.ensures
