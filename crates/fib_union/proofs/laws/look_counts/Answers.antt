use Rattle.fib_union.proofs.Scans.{into-scanned}
use Rattle.fib_union.proofs.laws.look_counts.Goals as goal

pub returns : goal.returns
returns c = into-scanned c.args.object c.args.union.now.union c.args.worker c.args.word
