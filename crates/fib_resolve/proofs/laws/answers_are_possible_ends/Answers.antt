use Rattle.fib_resolve.proofs.Answering.{resolve_possible}
use Rattle.fib_resolve.proofs.laws.answers_are_possible_ends.Goals as goal

pub returns : goal.returns
returns c = resolve_possible
