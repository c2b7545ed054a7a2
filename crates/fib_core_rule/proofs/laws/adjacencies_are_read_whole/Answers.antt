use Rattle.fib_core_rule.proofs.Tells.{read_whole}
use Rattle.fib_core_rule.proofs.laws.adjacencies_are_read_whole.Goals as goal

pub returns : goal.returns
returns c = λ objects id seat words views v d s at mine. read_whole objects words views s seat d mine id v at
