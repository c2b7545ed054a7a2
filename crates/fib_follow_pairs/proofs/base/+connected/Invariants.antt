use Rattle.std.proofs.Common.{length}
use Rattle.fib_follow_pairs.proofs.base.+connected.Given as goal

abbrev pub decreases-connected : goal.decreases-connected
decreases-connected l = length l.addresses.now
