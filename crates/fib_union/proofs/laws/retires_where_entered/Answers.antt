use Rattle.fib_union.proofs.Counts.{retire_iff}
use Rattle.fib_union.proofs.laws.retires_where_entered.Goals as goal

pub returns : goal.returns
returns c = retire_iff c.args.union.now.union c.args.cell
