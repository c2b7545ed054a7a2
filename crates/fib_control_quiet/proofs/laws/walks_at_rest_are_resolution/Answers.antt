use Rattle.fib_control_quiet.proofs.Planed.{walks_at_rest}
use Rattle.fib_control_quiet.proofs.laws.walks_at_rest_are_resolution.Goals as goal

pub returns : goal.returns
returns c = walks_at_rest
