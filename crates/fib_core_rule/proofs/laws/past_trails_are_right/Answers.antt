use Rattle.fib_core_rule.proofs.Tells.{past_right}
use Rattle.fib_core_rule.proofs.laws.past_trails_are_right.Goals as goal

pub returns : goal.returns
returns c = λ objects id seat words views v d s at mine. past_right objects words views s seat d mine id v at
