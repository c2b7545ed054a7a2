use Rattle.fib_resolve_changes.proofs.MarkLaws.{aim_is}
use Rattle.fib_resolve_changes.proofs.laws.marks_decide_aims.Goals as goal

pub returns : goal.returns
returns c = aim_is
