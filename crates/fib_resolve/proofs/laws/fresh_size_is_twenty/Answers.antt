use Rattle.std.proofs.Common.{refl}
use Rattle.fib_resolve.specs.Pairs.{pairs, all_pairs, base_pairs, entries, chosen, best_pair}
use Rattle.fib_resolve.specs.Sizes.{size, plies, adjacencies}
use Rattle.fib_resolve.proofs.laws.fresh_size_is_twenty.Goals as goal

pub returns : goal.returns
unfolding size plies adjacencies entries pairs all_pairs base_pairs chosen best_pair
returns c = refl
