use Rattle.fib_core_rule.proofs.Keeping.{stops}
use Rattle.fib_core_rule.proofs.events.pass_stops.Goals as goal

pub returns : goal.returns
returns c = λ objects id p words views v s at may. stops objects words views id s v p may at
