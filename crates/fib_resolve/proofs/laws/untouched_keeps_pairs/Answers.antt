use Rattle.fib_resolve.proofs.Touching.{untouched_pairs}
use Rattle.fib_resolve.proofs.laws.untouched_keeps_pairs.Goals as goal

pub returns : goal.returns
returns c = untouched_pairs
