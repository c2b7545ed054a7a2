use Rattle.fib_reach.proofs.Walking.{walk_cut}
use Rattle.fib_reach.proofs.laws.walks_cut.Goals as goal

pub returns : goal.returns
returns g c = walk_cut g.N.Linked.edge
