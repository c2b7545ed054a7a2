use Rattle.fib_stack.proofs.Promising.{fresh_is_loose}
use Rattle.fib_stack.proofs.stores.what_is_new_is_loose.Goals as goal

pub returns : goal.returns
returns c = fresh_is_loose
