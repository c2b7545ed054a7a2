use Rattle.fib_resolve_changes.proofs.Ranking.{ranked}
use Rattle.fib_resolve_changes.proofs.laws.falling_ranks_are_ranked.Goals as goal

pub returns : goal.returns
returns c = ranked
