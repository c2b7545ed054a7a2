use Rattle.fib_resolve_changes.proofs.Moves.{sizes_move}
use Rattle.fib_resolve_changes.proofs.laws.sizes_move_with_entries.Goals as goal

pub returns : goal.returns
returns c = sizes_move
