use Rattle.fib_resolve_changes.proofs.Moved.{moved_prefixes}
use Rattle.fib_resolve_changes.proofs.laws.lengths_move_inside.Goals as goal

pub returns : goal.returns
returns c = moved_prefixes
