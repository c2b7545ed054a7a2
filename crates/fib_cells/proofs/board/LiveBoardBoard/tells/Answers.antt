use Rattle.std.proofs.Common.{[], subst}
use Rattle.fib_core_board.specs.Boards.{Board}
use Rattle.fib_core_board.specs.Told.{IsBoard}
use Rattle.fib_cells.specs.Seats.{id_of}
use Rattle.fib_cells.proofs.Sittings.{within}
use Rattle.fib_cells.proofs.board.LiveBoardBoard.tells.Goals as goal

pub returns : goal.returns
returns c =
    let live = c.self.invariant.1 in
    subst (λ (p : Board). IsBoard p) c.self.view_is (live.told (within _ _ _ _ _ _ _ _ _ live) (id_of c.self.inside.place.table_id) [])
