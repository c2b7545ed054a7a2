use Rattle.fib_soak.proofs.Texts.{one_round}
use Rattle.fib_soak.proofs.script.put_round.Goals as goal

pub returns-clause-text : goal.returns-clause-text
returns-clause-text c = one_round _ _ _ _ _ _ c.in_ok-put_line.ensures c.in_ok-put_changes.ensures.text c.in_ok-put_line-2.ensures
