use Rattle.std.proofs.Common.{arith, ap}
use Rattle.fib_cells.proofs.Moves.{may_note}
use Rattle.fib_cells.proofs.crew.LiveBoardCrew.note.Goals as goal

pub split_seat-place-requires : goal.split_seat-place-requires
split_seat-place-requires c =
    let live = c.self.invariant.1 in (
      c.self.invariant.0,
      (let size = live.size in let same = ap (λ t. t.words) c.self.invariant.0 in omega arith),
      may_note _ 0 _ _ live.sat,
    )
