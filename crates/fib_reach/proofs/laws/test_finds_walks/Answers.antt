use Rattle.fib_reach.proofs.Through.{leads_through-Decides}
use Rattle.fib_reach.proofs.laws.test_finds_walks.Goals as goal

pub returns : goal.returns
returns g c = λ mids is listed a b. leads_through-Decides g.N.Listed.same is g.N.Listed.next mids listed a b
