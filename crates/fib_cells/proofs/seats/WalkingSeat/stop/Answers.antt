use Rattle.std.proofs.Common.{arith, ap}
use Rattle.fib_cells.proofs.Moves.{may_stop}
use Rattle.fib_cells.proofs.seats.WalkingSeat.stop.Goals as goal

pub store-requires : goal.store-requires
store-requires c =
    let seat = c.self.invariant.1.seat in (
      c.self.invariant.0,
      (let size = seat.size in let small = seat.small in let same = ap (λ t. t.words) c.self.invariant.0 in let is = c.pass_word.ensures in omega arith),
      may_stop _ _ _ _ _ _ _ seat.sat seat.named (let odd = c.self.invariant.1.odd in omega arith) c.pass_word.ensures,
    )
