use Rattle.fib_stack.proofs.Leaving.{took_one_quiet}
use Rattle.fib_stack.proofs.stores.so_does_taking_a_record.Goals as goal

pub returns : goal.returns
returns c = λ look u v m r before plane took. took_one_quiet u v m r before plane took look
