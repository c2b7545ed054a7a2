use Rattle.fib_core_rule.proofs.Keeping.{tells}
use Rattle.fib_core_rule.proofs.events.note_is_told.Goals as goal

pub returns : goal.returns
returns c = λ objects id other words views v n s at apart there. tells objects words views id s other v n at apart there
