use Rattle.std.proofs.Common.{length}
use Rattle.fib_stack.proofs.wanted.+forwards.Given as goal

abbrev pub decreases-forwards : goal.decreases-forwards
decreases-forwards l = length l.marks.now
