use Rattle.fib_resolve.proofs.KeptEdges.{kept_acyclic}
use Rattle.fib_resolve.proofs.laws.kept_edges_are_acyclic.Goals as goal

pub returns : goal.returns
returns c = kept_acyclic
