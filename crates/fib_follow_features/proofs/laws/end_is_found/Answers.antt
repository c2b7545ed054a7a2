use Rattle.fib_follow_features.proofs.Tabled.{end_found}
use Rattle.fib_follow_features.proofs.laws.end_is_found.Goals as goal

pub returns : goal.returns
returns c = end_found
