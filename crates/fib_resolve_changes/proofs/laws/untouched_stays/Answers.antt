use Rattle.fib_resolve_changes.proofs.MarkLaws.{untouched_stays, untouched_came}
use Rattle.fib_resolve_changes.proofs.laws.untouched_stays.Goals as goal

pub returns-clause-there : goal.returns-clause-there
returns-clause-there c = untouched_stays

pub returns-clause-back : goal.returns-clause-back
returns-clause-back c = untouched_came
