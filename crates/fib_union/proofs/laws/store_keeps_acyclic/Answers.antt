use Rattle.fib_union.proofs.Stores.{acyclic-stored}
use Rattle.fib_union.proofs.laws.store_keeps_acyclic.Goals as goal

pub returns : goal.returns
returns c = acyclic-stored c.args.union.now.union c.args.cell c.args.to c.args.union.now.workers
