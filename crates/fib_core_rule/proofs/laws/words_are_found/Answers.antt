use Rattle.fib_core_rule.proofs.Tells.{word_found}
use Rattle.fib_core_rule.proofs.laws.words_are_found.Goals as goal

pub returns : goal.returns
returns c = λ objects k words views s lt. word_found objects words views s k lt
