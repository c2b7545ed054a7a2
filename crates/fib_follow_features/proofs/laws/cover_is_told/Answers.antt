use Rattle.fib_follow_features.proofs.Tabled.{cover_is}
use Rattle.fib_follow_features.proofs.laws.cover_is_told.Goals as goal

pub returns : goal.returns
returns c = cover_is
