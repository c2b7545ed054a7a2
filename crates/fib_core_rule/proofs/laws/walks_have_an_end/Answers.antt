use Rattle.fib_core_rule.proofs.Tells.{walk_has_end}
use Rattle.fib_core_rule.proofs.laws.walks_have_an_end.Goals as goal

pub returns : goal.returns
returns c = λ objects seat a h words views d s mine. walk_has_end objects words views s seat d mine a h
