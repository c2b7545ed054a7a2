use Rattle.fib_core_rule.proofs.Keeping.{puts}
use Rattle.fib_core_rule.proofs.events.cell_is_stored.Goals as goal

pub returns : goal.returns
returns c = λ objects id k w words views d s at may. puts objects words views id s d k w may at
