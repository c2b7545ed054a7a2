use Rattle.std.proofs.Common.{suc, ◌/◌, ap}
use Rattle.fib_core.specs.Walk.{from_balance}
use Rattle.fib_core.proofs.stage.after_balance.Goals as goal

pub returns-in-ToBalance : goal.returns-in-ToBalance
returns-in-ToBalance c = λ h n e. (suc n, ap (from_balance n) c.in-ToBalance.is, ap (λ m. m / 2) e)
