use Rattle.fib_union.proofs.Counts.{counted_has_in, has_in_counted}
use Rattle.fib_union.proofs.laws.counts_tell.Goals as goal

pub returns : goal.returns
returns c = (counted_has_in c.args.union.now.union c.args.object, has_in_counted c.args.union.now.union c.args.object)
