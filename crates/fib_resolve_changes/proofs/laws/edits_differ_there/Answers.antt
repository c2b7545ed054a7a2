use Rattle.fib_resolve_changes.proofs.Differing.{edit_differs}
use Rattle.fib_resolve_changes.proofs.laws.edits_differ_there.Goals as goal

pub returns : goal.returns
returns c = edit_differs
