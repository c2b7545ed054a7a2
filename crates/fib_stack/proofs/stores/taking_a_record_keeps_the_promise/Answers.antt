use Rattle.fib_stack.proofs.Clearing.{took_serves}
use Rattle.fib_stack.proofs.stores.taking_a_record_keeps_the_promise.Goals as goal

pub returns : goal.returns
returns c = took_serves
