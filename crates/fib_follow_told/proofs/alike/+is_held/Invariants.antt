use Rattle.std.proofs.Common.{length}
use Rattle.fib_follow_told.proofs.alike.+is_held.Given as goal

abbrev pub decreases-is_held : goal.decreases-is_held
decreases-is_held l = length l.held.now
