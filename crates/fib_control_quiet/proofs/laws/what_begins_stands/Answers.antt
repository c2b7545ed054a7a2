use Rattle.fib_control_quiet.proofs.Fresh.{begins_joined}
use Rattle.fib_control_quiet.proofs.laws.what_begins_stands.Goals as goal

pub returns : goal.returns
returns c = begins_joined
