use Rattle.std.proofs.Common.{◌≡◌}
use Rattle.test_live.proofs.beside.forward_share.Given as goal

abbrev pub invariant-loop-packet : goal.invariant-loop-packet
invariant-loop-packet l = l.worker.id ≡ l.fn.worker.id
