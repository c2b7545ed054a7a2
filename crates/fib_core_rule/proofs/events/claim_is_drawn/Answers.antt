use Rattle.fib_core_rule.proofs.Keeping.{draws}
use Rattle.fib_core_rule.proofs.events.claim_is_drawn.Goals as goal

pub returns : goal.returns
returns c = λ objects id words views v s at may. draws objects words views id s v may at
