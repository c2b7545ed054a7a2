use Rattle.fib_core_rule.proofs.Keeping.{notes}
use Rattle.fib_core_rule.proofs.events.note_is_made.Goals as goal

pub returns : goal.returns
returns c = λ objects id words views d s at. notes objects words views id s d at
