use Rattle.std.proofs.Common.{length}
use Rattle.fib_stack.proofs.words.+found.Given as goal

abbrev pub decreases-found : goal.decreases-found
decreases-found l = length l.uses.now
