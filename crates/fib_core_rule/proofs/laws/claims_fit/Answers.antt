use Rattle.fib_core_rule.proofs.Tells.{claim_room}
use Rattle.fib_core_rule.proofs.laws.claims_fit.Goals as goal

pub returns : goal.returns
returns c = λ objects words views s. claim_room objects words views s
