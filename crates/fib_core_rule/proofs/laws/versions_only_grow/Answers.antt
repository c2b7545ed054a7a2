use Rattle.fib_core_rule.proofs.Tells.{known_before}
use Rattle.fib_core_rule.proofs.laws.versions_only_grow.Goals as goal

pub returns : goal.returns
returns c = λ objects id words views v s at. known_before objects words views s id v at
