use Rattle.fib_core_rule.proofs.Keeping.{starts}
use Rattle.fib_core_rule.proofs.events.pass_starts.Goals as goal

pub returns : goal.returns
returns c = λ objects id p words views v s at may. starts objects words views id s v p may at
