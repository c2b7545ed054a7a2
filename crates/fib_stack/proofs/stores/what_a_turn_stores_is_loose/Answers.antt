use Rattle.fib_stack.proofs.Promising.{turn_is_loose}
use Rattle.fib_stack.proofs.stores.what_a_turn_stores_is_loose.Goals as goal

pub returns : goal.returns
returns c = λ J S s now e o k h steady apart balances records at lt differs. turn_is_loose J S h s now e o k steady apart balances records at lt differs
