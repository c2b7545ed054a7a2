use Rattle.fib_resolve_changes.proofs.Reached.{quiet_beside}
use Rattle.fib_resolve_changes.proofs.laws.nothing_is_touched_beside.Goals as goal

pub returns : goal.returns
returns c = quiet_beside
