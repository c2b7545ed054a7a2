use Rattle.fib_stack.proofs.Keeping.{applied_keeps}
use Rattle.fib_stack.proofs.laws.so_does_a_change.Goals as goal

pub returns : goal.returns
returns c = applied_keeps
