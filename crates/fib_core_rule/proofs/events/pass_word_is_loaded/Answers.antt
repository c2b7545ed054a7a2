use Rattle.fib_core_rule.proofs.Keeping.{looks}
use Rattle.fib_core_rule.proofs.events.pass_word_is_loaded.Goals as goal

pub returns : goal.returns
returns c = λ objects id n words views d s at. looks objects words views id s d n at
