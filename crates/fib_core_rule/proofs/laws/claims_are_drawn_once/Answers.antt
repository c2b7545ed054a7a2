use Rattle.fib_core_rule.proofs.Tells.{gathered_all}
use Rattle.fib_core_rule.proofs.laws.claims_are_drawn_once.Goals as goal

pub returns : goal.returns
returns c = λ objects seat words views d s mine home. gathered_all objects words views s seat d mine home
