use Rattle.std.proofs.Common.{length}
use Rattle.fib_follow_pairs.proofs.compare.+all_held.Given as goal

abbrev pub decreases-all_held : goal.decreases-all_held
decreases-all_held l = length l.pairs.now
