use Rattle.fib_resolve_changes.proofs.Reached.{lowered_fall}
use Rattle.fib_resolve_changes.proofs.laws.lowered_ranks_fall.Goals as goal

pub returns : goal.returns
returns c = lowered_fall
