use Rattle.fib_entries_rows.proofs.Alike.{marks_pass}
use Rattle.fib_entries_rows.proofs.compare.same_marks.Goals as goal

pub returns : goal.returns
returns c = marks_pass c.eq.result c.args.xs.now c.args.ys.now c.eq.ensures
