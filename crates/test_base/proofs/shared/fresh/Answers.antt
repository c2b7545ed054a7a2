use Rattle.std.proofs.Common.{arith, refl, sym, subst}
use Rattle.fib_core_board.specs.Boards.{IsFresh}
use Rattle.test_base.proofs.shared.fresh.Goals as goal

pub new-requires-2 : goal.new-requires-2
new-requires-2 c = subst IsFresh (sym c.in_ok-board.ensures) (record { some = omega arith; few = omega arith; fresh = refl })
