use Rattle.std.proofs.Common.{◌≡◌}
use Rattle.trial_filling.specs.inner.Filling.{IsChanging}
use Rattle.test_workers.proofs.worker.held_beneath_a_change.Given as goal

abbrev pub invariant-loop : goal.invariant-loop
invariant-loop l = (l.pass.seat.id ≡ l.fn.worker.id) × IsChanging l.board × (l.board.id ≡ l.fn.board.id) × (l.board.workers ≡ l.fn.board.workers) × (l.board.objects ≡ l.fn.board.objects)
