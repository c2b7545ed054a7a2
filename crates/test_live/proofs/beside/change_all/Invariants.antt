use Rattle.std.proofs.Common.{◌≡◌}
use Rattle.test_live.proofs.beside.change_all.Given as goal

abbrev pub invariant-loop-number : goal.invariant-loop-number
invariant-loop-number g l = l.control.plane.board.id ≡ l.fn.control.plane.board.id
