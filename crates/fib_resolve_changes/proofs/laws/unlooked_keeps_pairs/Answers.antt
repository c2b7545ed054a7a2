use Rattle.fib_resolve_changes.proofs.Caught.{hosted_known}
use Rattle.fib_resolve_changes.proofs.Unlooked.{unlooked_same}
use Rattle.fib_resolve_changes.proofs.laws.unlooked_keeps_pairs.Goals as goal

pub returns : goal.returns
returns c S T a small good after passed = unlooked_same S T a small good after passed (hosted_known S a)
