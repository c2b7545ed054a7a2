use Rattle.fib_union.proofs.Stores.{into-stored}
use Rattle.fib_union.proofs.laws.store_counts.Goals as goal

pub returns : goal.returns
returns c = into-stored c.args.union.now.union c.args.union.now.workers c.args.cell c.args.to c.args.object c.requires
