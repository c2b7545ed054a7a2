use Rattle.fib_core_rule.proofs.Keeping.{homes}
use Rattle.fib_core_rule.proofs.events.seat_comes_home.Goals as goal

pub returns : goal.returns
returns c = λ objects id other words views d v s at apart there may. homes objects words views id s other d v may at apart there
