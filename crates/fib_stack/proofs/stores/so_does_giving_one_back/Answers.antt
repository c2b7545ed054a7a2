use Rattle.fib_stack.proofs.Leaving.{gave_quiet}
use Rattle.fib_stack.proofs.stores.so_does_giving_one_back.Goals as goal

pub returns : goal.returns
returns c = λ look u v m plane gave. gave_quiet u v m plane gave look
