use Rattle.std.proofs.Common.{◌≡◌}
use Rattle.trial_filling.specs.inner.Filling.{IsChanging}
use Rattle.test_workers.proofs.worker.a_change_beneath_held_passes.Given as goal

abbrev pub invariant-loop-held : goal.invariant-loop-held
invariant-loop-held g l = IsChanging l.board × (l.board.workers ≡ 1) × (l.board.objects ≡ 64) × (l.worker.id ≡ l.board.id)
