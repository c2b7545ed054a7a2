use Rattle.fib_union.proofs.Stores.{no_second_way}
use Rattle.fib_union.proofs.laws.another_edge_closes_no_cycle.Goals as goal

pub returns : goal.returns
returns c = no_second_way c.args.union.now.union c.args.from c.args.to
