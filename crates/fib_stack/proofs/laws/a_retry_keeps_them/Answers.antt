use Rattle.fib_stack.proofs.Settling.{retried_steady}
use Rattle.fib_stack.proofs.laws.a_retry_keeps_them.Goals as goal

pub returns : goal.returns
returns c = retried_steady
