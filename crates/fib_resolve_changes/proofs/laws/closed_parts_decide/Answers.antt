use Rattle.fib_resolve_changes.proofs.Cycles.{part_decides}
use Rattle.fib_resolve_changes.proofs.laws.closed_parts_decide.Goals as goal

pub returns : goal.returns
returns c = part_decides
