use Rattle.fib_core_stands.proofs.Settling.{settled_ends}
use Rattle.fib_core_stands.proofs.laws.stored_ends_are_possible.Goals as goal

pub returns : goal.returns
returns c = settled_ends
