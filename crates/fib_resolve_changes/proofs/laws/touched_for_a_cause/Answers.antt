use Rattle.fib_resolve_changes.proofs.CauseLaws.{touched_causes}
use Rattle.fib_resolve_changes.proofs.laws.touched_for_a_cause.Goals as goal

pub returns : goal.returns
returns c = touched_causes
