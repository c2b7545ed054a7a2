use Rattle.fib_resolve.proofs.LoopTests.{looped-Decides}
use Rattle.fib_resolve.proofs.laws.looped_is_a_walk.Goals as goal

pub returns : goal.returns
returns c = looped-Decides
