use Rattle.fib_stack.proofs.Keeping.{removed_keeps}
use Rattle.fib_stack.proofs.laws.so_does_one_of_a_prefix_that_left.Goals as goal

pub returns : goal.returns
returns c = removed_keeps
