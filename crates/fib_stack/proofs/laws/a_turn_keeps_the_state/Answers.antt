use Rattle.fib_stack.proofs.Keeping.{restacked_keeps}
use Rattle.fib_stack.proofs.laws.a_turn_keeps_the_state.Goals as goal

pub returns : goal.returns
returns c = restacked_keeps
