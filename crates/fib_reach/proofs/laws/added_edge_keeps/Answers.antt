use Rattle.fib_reach.proofs.Walking.{acyclic-plus}
use Rattle.fib_reach.proofs.laws.added_edge_keeps.Goals as goal

pub returns : goal.returns
returns g c = acyclic-plus g.N.Linked.edge
