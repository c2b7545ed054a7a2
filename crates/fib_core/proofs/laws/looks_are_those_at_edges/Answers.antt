use Rattle.fib_core.proofs.Edges.{edges_scanned}
use Rattle.fib_core.proofs.laws.looks_are_those_at_edges.Goals as goal

pub returns : goal.returns
returns c = edges_scanned
