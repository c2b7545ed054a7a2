use Rattle.fib_stack.proofs.Leaving.{let_go_quiet}
use Rattle.fib_stack.proofs.stores.so_does_letting_one_go.Goals as goal

pub returns : goal.returns
returns c = λ look u v o plane mine go none. let_go_quiet u v o plane mine go look none
