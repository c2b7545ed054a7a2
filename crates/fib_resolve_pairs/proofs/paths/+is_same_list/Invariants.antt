use Rattle.std.proofs.Common.{length}
use Rattle.fib_resolve_pairs.proofs.paths.+is_same_list.Given as goal

abbrev pub decreases-is_same_list : goal.decreases-is_same_list
decreases-is_same_list l = length l.xs.now
