use Rattle.std.proofs.Common.{length}
use Rattle.fib_follow_pairs.proofs.host.+has_way.Given as goal

abbrev pub decreases-has_way : goal.decreases-has_way
decreases-has_way l = length l.among.now
