use Rattle.fib_stack.proofs.Promising.{late_is_loose}
use Rattle.fib_stack.proofs.stores.what_is_deferred_is_loose.Goals as goal

pub returns : goal.returns
returns c = late_is_loose
