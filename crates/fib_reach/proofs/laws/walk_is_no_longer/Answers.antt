use Rattle.fib_reach.proofs.Walking.{walk_no_longer}
use Rattle.fib_reach.proofs.laws.walk_is_no_longer.Goals as goal

pub returns : goal.returns
returns g c = λ sources n x y starts calm w. walk_no_longer g.N.Linked.edge calm sources starts n x y w
