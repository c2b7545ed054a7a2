use Rattle.std.proofs.Common.{◌≡◌}
use Rattle.test_workers.proofs.threads.forward_claims.Given as goal

abbrev pub invariant-loop : goal.invariant-loop
invariant-loop l = l.worker.id ≡ l.fn.worker.id
