use Rattle.fib_reach.proofs.Walking.{visits_once}
use Rattle.fib_reach.proofs.laws.walk_visits_once.Goals as goal

pub returns : goal.returns
returns g c = λ n x y w calm. visits_once g.N.Linked.edge calm n x y w
