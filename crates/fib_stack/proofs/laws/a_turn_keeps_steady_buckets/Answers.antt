use Rattle.fib_stack.proofs.Settling.{restacked_steady}
use Rattle.fib_stack.proofs.laws.a_turn_keeps_steady_buckets.Goals as goal

pub returns : goal.returns
returns c = λ J S e o s t h steady r. restacked_steady J S h e o s t steady r
