use Rattle.fib_core_results.proofs.Settled.{settled_ok}
use Rattle.fib_core_results.proofs.laws.settled_answers_are_right.Goals as goal

pub returns : goal.returns
returns c = settled_ok
