use Rattle.fib_core_rule.proofs.Keeping.{settles}
use Rattle.fib_core_rule.proofs.events.version_is_settled.Goals as goal

pub returns : goal.returns
returns c = λ objects id words views d s at may. settles objects words views id s d may at
