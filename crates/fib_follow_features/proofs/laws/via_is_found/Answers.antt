use Rattle.fib_follow_features.proofs.Tabled.{via_found}
use Rattle.fib_follow_features.proofs.laws.via_is_found.Goals as goal

pub returns : goal.returns
returns c = via_found
