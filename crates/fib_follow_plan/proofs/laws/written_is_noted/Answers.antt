use Rattle.fib_follow_plan.proofs.Keeping.{written_noted}
use Rattle.fib_follow_plan.proofs.laws.written_is_noted.Goals as goal

pub returns-clause-noted : goal.returns-clause-noted
returns-clause-noted c = written_noted

pub returns-clause-full : goal.returns-clause-full
returns-clause-full c = λ rows new lists later order after plan list told w. told.full new later after w
