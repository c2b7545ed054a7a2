use Rattle.fib_core_rule.proofs.Tells.{live_ones}
use Rattle.fib_core_rule.proofs.laws.passes_visit_live_objects.Goals as goal

pub returns : goal.returns
returns c = λ objects id seat words views v d s at mine. live_ones objects words views s seat d mine id v at
