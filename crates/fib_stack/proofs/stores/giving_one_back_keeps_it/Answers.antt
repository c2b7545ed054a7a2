use Rattle.fib_stack.proofs.Clearing.{gave_serves}
use Rattle.fib_stack.proofs.stores.giving_one_back_keeps_it.Goals as goal

pub returns : goal.returns
returns c = gave_serves
