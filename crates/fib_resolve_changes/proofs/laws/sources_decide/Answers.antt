use Rattle.fib_resolve_changes.proofs.SamePairs.{same_pairs_from}
use Rattle.fib_resolve_changes.proofs.laws.sources_decide.Goals as goal

pub returns : goal.returns
returns c = same_pairs_from
