use Rattle.fib_core_rule.proofs.Keeping.{hops}
use Rattle.fib_core_rule.proofs.events.cell_is_loaded.Goals as goal

pub returns : goal.returns
returns c = λ objects id k words views v s at may. hops objects words views id s v k may at
