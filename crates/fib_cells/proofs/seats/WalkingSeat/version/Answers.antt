use Rattle.std.proofs.Common.{arith, ap}
use Rattle.fib_cells.proofs.Moves.{may_learn}
use Rattle.fib_cells.proofs.seats.WalkingSeat.version.Goals as goal

pub load-found-requires : goal.load-found-requires
load-found-requires c =
    let seat = c.self.invariant.1.seat in (
      c.self.invariant.0,
      (let size = seat.size in let same = ap (λ t. t.words) c.self.invariant.0 in let is = c.version_word.ensures in omega arith),
      may_learn _ _ _ _ _ seat.sat c.version_word.ensures,
    )
