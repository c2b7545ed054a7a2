use Rattle.fib_stack.proofs.Keeping.{retried_keeps}
use Rattle.fib_stack.proofs.laws.and_so_does_a_retry.Goals as goal

pub returns : goal.returns
returns c = retried_keeps
