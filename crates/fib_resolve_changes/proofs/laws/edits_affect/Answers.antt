use Rattle.fib_resolve_changes.proofs.EveryEdit.{edit_caught}
use Rattle.fib_resolve_changes.proofs.laws.edits_affect.Goals as goal

pub returns : goal.returns
returns c = edit_caught
