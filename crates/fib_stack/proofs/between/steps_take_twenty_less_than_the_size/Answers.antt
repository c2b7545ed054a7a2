use Rattle.fib_stack.specs.Joined.{state_in}
use Rattle.fib_stack.proofs.Twenty.{took_few}
use Rattle.fib_stack.proofs.between.steps_take_twenty_less_than_the_size.Goals as goal

pub returns : goal.returns
returns c = λ S rank p u v s t j begun took. took_few S rank p u s j begun (state_in v t) u.free v.free took
