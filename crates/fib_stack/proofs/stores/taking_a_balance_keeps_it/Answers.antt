use Rattle.fib_stack.proofs.Clearing.{take_serves}
use Rattle.fib_stack.proofs.stores.taking_a_balance_keeps_it.Goals as goal

pub returns : goal.returns
returns c = take_serves
