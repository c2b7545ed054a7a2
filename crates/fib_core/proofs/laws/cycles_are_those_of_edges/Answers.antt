use Rattle.fib_core.proofs.Edges.{acyclic_edges, acyclic_words}
use Rattle.fib_core.proofs.laws.cycles_are_those_of_edges.Goals as goal

pub returns : goal.returns
returns c = λ u all. (acyclic_edges u all, acyclic_words u)
