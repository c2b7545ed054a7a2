use Rattle.fib_resolve.proofs.Covering.{cover_longest}
use Rattle.fib_resolve.proofs.laws.cover_is_longest.Goals as goal

pub returns : goal.returns
returns c = cover_longest
