use Rattle.fib_reach.proofs.Walking.{walk_then}
use Rattle.fib_reach.proofs.laws.walks_compose.Goals as goal

pub returns : goal.returns
returns g c = walk_then g.N.Linked.edge
