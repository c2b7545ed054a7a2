use Rattle.fib_core_results.proofs.Settled.{settled_steady}
use Rattle.fib_core_results.proofs.laws.settled_answers_are_steady.Goals as goal

pub returns : goal.returns
returns c = settled_steady
