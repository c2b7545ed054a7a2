use Rattle.fib_resolve_changes.proofs.CauseLaws.{marks_through_all}
use Rattle.fib_resolve_changes.proofs.laws.marks_change_on_cycles.Goals as goal

pub returns : goal.returns
returns c = marks_through_all
