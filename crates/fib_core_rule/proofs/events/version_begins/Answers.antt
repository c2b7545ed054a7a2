use Rattle.fib_core_rule.proofs.Keeping.{begins}
use Rattle.fib_core_rule.proofs.events.version_begins.Goals as goal

pub returns : goal.returns
returns c = λ objects id words views d next s at may. begins objects words views id s d next may at
