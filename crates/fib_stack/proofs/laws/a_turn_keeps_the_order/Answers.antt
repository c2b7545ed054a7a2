use Rattle.fib_stack.proofs.Ordering.{restacked_in_order}
use Rattle.fib_stack.proofs.laws.a_turn_keeps_the_order.Goals as goal

pub returns : goal.returns
returns c = restacked_in_order
