use Rattle.fib_core_rule.proofs.Tells.{walks_union}
use Rattle.fib_core_rule.proofs.laws.trails_walk_the_union.Goals as goal

pub returns : goal.returns
returns c = λ objects id seat words views v d s at mine. walks_union objects words views s seat d mine id v at
