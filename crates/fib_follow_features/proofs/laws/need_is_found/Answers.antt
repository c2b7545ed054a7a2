use Rattle.fib_follow_features.proofs.Tabled.{need_found}
use Rattle.fib_follow_features.proofs.laws.need_is_found.Goals as goal

pub returns : goal.returns
returns c = need_found
