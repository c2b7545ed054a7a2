use Rattle.fib_core_rule.proofs.Tells.{home_right}
use Rattle.fib_core_rule.proofs.laws.trails_come_home_right.Goals as goal

pub returns : goal.returns
returns c = λ objects seat words views d s mine. home_right objects words views s seat d mine
