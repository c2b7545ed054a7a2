use Rattle.fib_reach.proofs.Walking.{closes_iff}
use Rattle.fib_reach.proofs.laws.added_edge_closes.Goals as goal

pub returns : goal.returns
returns g c = closes_iff g.N.Linked.edge
