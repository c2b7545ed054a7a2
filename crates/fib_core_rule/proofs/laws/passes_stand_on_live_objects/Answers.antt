use Rattle.fib_core_rule.proofs.Tells.{stands_live}
use Rattle.fib_core_rule.proofs.laws.passes_stand_on_live_objects.Goals as goal

pub returns : goal.returns
returns c = λ objects id seat words views v d s at mine. stands_live objects words views s seat d mine id v at
