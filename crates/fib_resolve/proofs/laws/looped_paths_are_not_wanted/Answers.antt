use Rattle.fib_resolve.proofs.Answering.{wanted_not_looped}
use Rattle.fib_resolve.proofs.laws.looped_paths_are_not_wanted.Goals as goal

pub returns : goal.returns
returns c = wanted_not_looped
