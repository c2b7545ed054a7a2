use Rattle.std.proofs.Common.{length}
use Rattle.fib_follow_looked.proofs.named.+list_held.Given as goal

abbrev pub decreases-list_held : goal.decreases-list_held
decreases-list_held l = length l.held.now
