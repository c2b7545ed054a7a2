use Rattle.std.proofs.Common.{◌≡◌}
use Rattle.test_live.proofs.beside.forward_all.Given as goal

abbrev pub invariant-loop-number : goal.invariant-loop-number
invariant-loop-number l = l.worker.id ≡ l.fn.worker.id
