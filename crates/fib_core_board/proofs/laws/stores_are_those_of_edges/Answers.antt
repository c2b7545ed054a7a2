use Rattle.fib_core_board.proofs.Serving.{union_stored}
use Rattle.fib_core_board.proofs.laws.stores_are_those_of_edges.Goals as goal

pub returns : goal.returns
returns c = union_stored
