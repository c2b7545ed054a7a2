use Rattle.fib_control_quiet.proofs.Versions.{joined_settled}
use Rattle.fib_control_quiet.proofs.laws.settling_keeps_what_stands.Goals as goal

pub returns : goal.returns
returns c = λ S rank q s told seen rest last. joined_settled S rank q s told seen rest last
