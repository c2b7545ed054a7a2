use Rattle.fib_core_promise.proofs.Turns.{restacked_steady}
use Rattle.fib_core_promise.proofs.laws.a_turn_keeps_the_stack_steady.Goals as goal

pub returns : goal.returns
returns c = λ J now e o s t here steady r. restacked_steady J now here e o s t steady r
