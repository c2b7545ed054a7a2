use Rattle.fib_union.proofs.Scans.{acyclic-scanned}
use Rattle.fib_union.proofs.laws.look_keeps_acyclic.Goals as goal

pub returns : goal.returns
returns c = acyclic-scanned c.args.union.now.union c.args.worker c.args.word
