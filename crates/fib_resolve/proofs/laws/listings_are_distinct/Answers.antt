use Rattle.std.proofs.Common.{refl}
use Rattle.fib_resolve.specs.Sizes.{size}
use Rattle.fib_resolve.proofs.Covering.{plies_apart, entries_apart, adjacencies_apart, pairs_apart}
use Rattle.fib_resolve.proofs.laws.listings_are_distinct.Goals as goal

pub returns : goal.returns
unfolding size
returns c = record { pairs = pairs_apart; plies = plies_apart; entries = entries_apart; adjacencies = adjacencies_apart; size = λ S. refl }
