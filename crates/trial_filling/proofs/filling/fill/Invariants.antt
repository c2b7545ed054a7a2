use Rattle.std.proofs.Common.{◌≡◌, ◌≤◌}
use Rattle.trial_filling.specs.inner.Filling.{IsFilling, with_union}
use Rattle.trial_filling.proofs.filling.fill.Given as goal

abbrev pub invariant-loop-store : goal.invariant-loop-store
invariant-loop-store g l = IsFilling l.store (g.B.Board.view l.board) × (l.store ≤ 254) × (g.B.Board.view l.board ≡ with_union (g.B.Board.view l.fn.board) (g.B.Board.view l.board))
