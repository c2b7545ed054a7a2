use Rattle.fib_core_promise.proofs.Turns.{settled_steady}
use Rattle.fib_core_promise.proofs.laws.a_quiet_stack_is_steady.Goals as goal

pub returns : goal.returns
returns c = settled_steady
