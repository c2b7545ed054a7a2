use Rattle.fib_follow_told.specs.inner.Moves.{AreFirstMoves}
use Rattle.fib_follow_told.proofs.telling.moved.Given as goal

abbrev pub invariant-members : goal.invariant-members
invariant-members l = AreFirstMoves l.view l.members l.ranks l.place l.out
