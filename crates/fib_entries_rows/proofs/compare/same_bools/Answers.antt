use Rattle.fib_entries_rows.proofs.Alike.{bits_pass}
use Rattle.fib_entries_rows.proofs.compare.same_bools.Goals as goal

pub returns : goal.returns
returns c = bits_pass c.eq.result c.args.xs.now c.args.ys.now c.eq.ensures
