use Rattle.fib_stack.proofs.Rooming.{took_then}
use Rattle.fib_stack.proofs.between.what_steps_take_adds_up.Goals as goal

pub returns : goal.returns
returns c = λ S s t r f g h a b. took_then S s t r f g h a b
