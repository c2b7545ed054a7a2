use Rattle.fib_core_rule.proofs.Keeping.{picks}
use Rattle.fib_core_rule.proofs.events.number_is_picked.Goals as goal

pub returns : goal.returns
returns c = λ objects id n words views d s at. picks objects words views id s d n at
