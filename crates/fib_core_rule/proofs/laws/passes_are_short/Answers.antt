use Rattle.fib_core_rule.proofs.Tells.{few_hops}
use Rattle.fib_core_rule.proofs.laws.passes_are_short.Goals as goal

pub returns : goal.returns
returns c = λ objects id words views v s at. few_hops objects words views s id v at
