use Rattle.fib_follow_part.proofs.Blocks.{IsLeastOf}
use Rattle.fib_follow_part.proofs.lowering.least.Given as goal

abbrev pub invariant-ranks : goal.invariant-ranks
invariant-ranks l = IsLeastOf l.ranks l.place l.found
