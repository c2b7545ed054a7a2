use Rattle.fib_core_rule.proofs.Changing.{store_gives}
use Rattle.fib_core_rule.proofs.laws.two_halves_are_all_that_a_store_asks.Goals as goal

pub returns : goal.returns
returns c = λ objects seat k w words views d s mine plane clear seen. store_gives objects words views s seat d mine k w plane clear seen
