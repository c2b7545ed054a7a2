use Rattle.fib_core.proofs.Edges.{edges_stored}
use Rattle.fib_core.proofs.laws.stores_are_those_of_edges.Goals as goal

pub returns : goal.returns
returns c = edges_stored
