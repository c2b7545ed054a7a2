use Rattle.fib_reach.proofs.Walking.{acyclic_part}
use Rattle.fib_reach.proofs.laws.part_is_acyclic.Goals as goal

pub returns : goal.returns
returns g c = acyclic_part g.N.Partly.part g.N.Linked.edge
