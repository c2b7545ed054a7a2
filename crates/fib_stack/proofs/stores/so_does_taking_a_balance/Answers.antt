use Rattle.fib_stack.proofs.Leaving.{take_quiet}
use Rattle.fib_stack.proofs.stores.so_does_taking_a_balance.Goals as goal

pub returns : goal.returns
returns c = λ look u v o plane take. take_quiet u v o plane take look
