use Rattle.fib_control_quiet.proofs.Planed.{used_at_rest}
use Rattle.fib_control_quiet.proofs.laws.as_many_are_used_as_the_size_says.Goals as goal

pub returns : goal.returns
returns c = used_at_rest
