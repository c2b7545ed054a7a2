use Rattle.fib_control_quiet.proofs.Versions.{joined_begun}
use Rattle.fib_control_quiet.proofs.laws.a_change_keeps_what_stands.Goals as goal

pub returns : goal.returns
returns c = joined_begun
