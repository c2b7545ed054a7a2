use Rattle.fib_core_rule.proofs.Keeping.{sends}
use Rattle.fib_core_rule.proofs.events.seat_is_sent.Goals as goal

pub returns : goal.returns
returns c = λ objects id words views d s at may. sends objects words views id s d may at
