use Rattle.fib_resolve_changes.proofs.Cycles.{no_dependant}
use Rattle.fib_resolve_changes.proofs.laws.who_has_no_dependant_is_on_no_cycle.Goals as goal

pub returns : goal.returns
returns c = no_dependant
