use Rattle.fib_control_quiet.proofs.Planed.{stands_at_rest}
use Rattle.fib_control_quiet.proofs.laws.what_is_at_rest_stands_for_the_tables.Goals as goal

pub returns : goal.returns
returns c = stands_at_rest
