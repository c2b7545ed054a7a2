use Rattle.fib_core_stands.proofs.Standing.{walk_resolved}
use Rattle.fib_core_stands.proofs.laws.walks_are_resolution.Goals as goal

pub returns : goal.returns
returns c = walk_resolved
