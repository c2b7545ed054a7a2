use Rattle.fib_stack.proofs.Leaving.{quiet_then}
use Rattle.fib_stack.proofs.stores.so_do_several_calls.Goals as goal

pub returns : goal.returns
returns c = quiet_then
