use Rattle.fib_resolve.proofs.PairLaws.{chosen_short}
use Rattle.fib_resolve.proofs.laws.chosen_lists_are_short.Goals as goal

pub returns : goal.returns
returns c = chosen_short
