use Rattle.fib_stack.proofs.Clearing.{let_go_serves}
use Rattle.fib_stack.proofs.stores.letting_an_object_go_keeps_it.Goals as goal

pub returns : goal.returns
returns c = let_go_serves
