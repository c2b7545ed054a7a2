use Rattle.fib_core_rule.proofs.Tells.{acyclic, edges_acyclic}
use Rattle.fib_core_rule.proofs.laws.union_is_acyclic.Goals as goal

pub returns : goal.returns
returns c = λ objects seat words views d s mine. (acyclic objects words views s seat d mine, edges_acyclic objects words views s seat d mine)
