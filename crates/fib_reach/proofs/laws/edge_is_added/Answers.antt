use Rattle.fib_reach.proofs.Graphs.{with_edge-iff}
use Rattle.fib_reach.proofs.laws.edge_is_added.Goals as goal

pub returns : goal.returns
returns c = λ h from to x y inside. with_edge-iff h from to inside x y
