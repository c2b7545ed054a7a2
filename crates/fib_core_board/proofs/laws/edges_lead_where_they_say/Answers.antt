use Rattle.fib_core_board.proofs.Serving.{edge_none, edge_some}
use Rattle.fib_core_board.proofs.laws.edges_lead_where_they_say.Goals as goal

pub returns-clause-edges : goal.returns-clause-edges
returns-clause-edges c = edge_some

pub returns-clause-others : goal.returns-clause-others
returns-clause-others c = edge_none
