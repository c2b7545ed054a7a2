use Rattle.fib_stack.proofs.Ordering.{removed_in_order}
use Rattle.fib_stack.proofs.laws.so_does_a_turn_of_a_prefix_that_left.Goals as goal

pub returns : goal.returns
returns c = removed_in_order
