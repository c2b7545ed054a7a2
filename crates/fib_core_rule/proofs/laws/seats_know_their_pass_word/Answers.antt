use Rattle.fib_core_rule.proofs.Tells.{pass_known}
use Rattle.fib_core_rule.proofs.laws.seats_know_their_pass_word.Goals as goal

pub returns : goal.returns
returns c = λ objects id words views v s at. pass_known objects words views s id v at
