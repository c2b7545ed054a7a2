use Rattle.fib_stack.proofs.Keeping.{quiet_stands}
use Rattle.fib_stack.proofs.laws.a_quiet_state_stands_for_the_tables.Goals as goal

pub returns : goal.returns
returns c = quiet_stands
