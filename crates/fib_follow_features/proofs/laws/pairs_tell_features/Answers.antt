use Rattle.fib_follow_features.proofs.Gathered.{pairs_tell}
use Rattle.fib_follow_features.proofs.laws.pairs_tell_features.Goals as goal

pub returns : goal.returns
returns c = pairs_tell
