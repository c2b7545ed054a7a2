use Rattle.std.proofs.Common.{length}
use Rattle.fib_follow_pairs.proofs.base.+has_edge.Given as goal

abbrev pub decreases-has_edge : goal.decreases-has_edge
decreases-has_edge l = length l.addresses.now
