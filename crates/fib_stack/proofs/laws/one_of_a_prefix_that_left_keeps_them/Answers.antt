use Rattle.fib_stack.proofs.Settling.{removed_steady}
use Rattle.fib_stack.proofs.laws.one_of_a_prefix_that_left_keeps_them.Goals as goal

pub returns : goal.returns
returns c = λ J S rank e s t h sound left steady r. removed_steady J S rank h e s t sound left steady r
