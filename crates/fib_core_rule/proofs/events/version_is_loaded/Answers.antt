use Rattle.fib_core_rule.proofs.Keeping.{learns}
use Rattle.fib_core_rule.proofs.events.version_is_loaded.Goals as goal

pub returns : goal.returns
returns c = λ objects id words views v s at. learns objects words views id s v at
