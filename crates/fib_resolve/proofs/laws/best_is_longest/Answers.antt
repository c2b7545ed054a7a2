use Rattle.fib_resolve.proofs.Covering.{best_longest}
use Rattle.fib_resolve.proofs.laws.best_is_longest.Goals as goal

pub returns : goal.returns
returns c = best_longest
