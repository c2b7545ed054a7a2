use Rattle.fib_core_rule.proofs.Fresh.{fresh_lawful}
use Rattle.fib_core_rule.proofs.events.fresh_table.Goals as goal

pub returns : goal.returns
returns c = λ objects workers any few. fresh_lawful objects workers any few
