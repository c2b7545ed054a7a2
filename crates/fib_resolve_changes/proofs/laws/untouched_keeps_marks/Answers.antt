use Rattle.fib_resolve_changes.proofs.MarkLaws.{untouched_marked}
use Rattle.fib_resolve_changes.proofs.laws.untouched_keeps_marks.Goals as goal

pub returns : goal.returns
returns c = untouched_marked
