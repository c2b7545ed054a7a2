use Rattle.fib_core_rule.proofs.Tells.{well_typed}
use Rattle.fib_core_rule.proofs.laws.edges_are_well_typed.Goals as goal

pub returns : goal.returns
returns c = λ objects seat words views d s mine. well_typed objects words views s seat d mine
