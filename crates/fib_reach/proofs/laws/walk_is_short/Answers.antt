use Rattle.fib_reach.proofs.Walking.{walk_short}
use Rattle.fib_reach.proofs.laws.walk_is_short.Goals as goal

pub returns : goal.returns
returns g c = λ nodes n x y ends here calm w. walk_short g.N.Linked.edge calm nodes ends n x y here w
