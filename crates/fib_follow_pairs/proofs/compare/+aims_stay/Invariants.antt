use Rattle.std.proofs.Common.{length}
use Rattle.fib_follow_pairs.proofs.compare.+aims_stay.Given as goal

abbrev pub decreases-aims_stay : goal.decreases-aims_stay
decreases-aims_stay l = length l.marked.now
