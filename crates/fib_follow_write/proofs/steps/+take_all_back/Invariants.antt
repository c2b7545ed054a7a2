use Rattle.std.proofs.Common.{length}
use Rattle.fib_follow_write.proofs.steps.+take_all_back.Given as goal

abbrev pub decreases-take_all_back : goal.decreases-take_all_back
decreases-take_all_back g l = length l.steps.now
