use Rattle.fib_core_rule.proofs.Tells.{paced}
use Rattle.fib_core_rule.proofs.laws.pass_words_are_odd_in_a_pass.Goals as goal

pub returns : goal.returns
returns c = λ objects id words views v s at. paced objects words views s id v at
