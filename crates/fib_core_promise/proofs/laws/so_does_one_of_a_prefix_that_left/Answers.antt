use Rattle.fib_core_promise.proofs.Turns.{removed_steady}
use Rattle.fib_core_promise.proofs.laws.so_does_one_of_a_prefix_that_left.Goals as goal

pub returns : goal.returns
returns c = λ J now e s t here steady r. removed_steady J now here e s t steady r
