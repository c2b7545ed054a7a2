use Rattle.std.proofs.Common.{◌≡◌}
use Rattle.trial_filling.specs.inner.Filling.{IsChanging}
use Rattle.test_workers.proofs.threads.store_beneath.Given as goal

abbrev pub invariant-loop : goal.invariant-loop
invariant-loop l = IsChanging l.board × (l.board.id ≡ l.fn.board.id)
