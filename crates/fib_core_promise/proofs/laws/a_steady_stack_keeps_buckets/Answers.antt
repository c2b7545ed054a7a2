use Rattle.fib_core_promise.proofs.Stack.{keeps_buckets}
use Rattle.fib_core_promise.proofs.laws.a_steady_stack_keeps_buckets.Goals as goal

pub returns : goal.returns
returns c = keeps_buckets
