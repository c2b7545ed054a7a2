use Rattle.std.proofs.Common.{subst}
use Rattle.fib_core_board.specs.Boards.{Board}
use Rattle.fib_core_plainboard.proofs.Keeping as keep
use Rattle.fib_core_board.specs.Told.{IsBoard}
use Rattle.fib_core_plainboard.proofs.plain_board.PlainBoardBoard.tells.Goals as goal

pub returns : goal.returns
returns c = subst (λ (p : Board). IsBoard p) c.self.view_is (keep.is_board c.self.inside.words.items c.self.inside.memory c.self.invariant.0)
