use Rattle.fib_reach.proofs.Walking.{leads_iff}
use Rattle.fib_reach.proofs.laws.leads_none_or_more.Goals as goal

pub returns : goal.returns
returns g c = leads_iff g.N.Linked.edge
