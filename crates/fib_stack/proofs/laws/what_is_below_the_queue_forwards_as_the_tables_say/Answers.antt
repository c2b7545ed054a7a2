use Rattle.fib_stack.proofs.Keeping.{was_below}
use Rattle.fib_stack.proofs.laws.what_is_below_the_queue_forwards_as_the_tables_say.Goals as goal

pub returns : goal.returns
returns c = was_below
