use Rattle.fib_stack.proofs.Settling.{settled_steady}
use Rattle.fib_stack.proofs.laws.settling_begins_anew.Goals as goal

pub returns : goal.returns
returns c = settled_steady
