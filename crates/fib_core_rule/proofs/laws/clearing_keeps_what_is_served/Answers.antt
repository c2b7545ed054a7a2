use Rattle.fib_core_rule.proofs.Serving.{held_cleared}
use Rattle.fib_core_rule.proofs.laws.clearing_keeps_what_is_served.Goals as goal

pub returns : goal.returns
returns c = held_cleared
