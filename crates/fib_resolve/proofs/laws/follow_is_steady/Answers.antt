use Rattle.fib_resolve.proofs.FollowLimit.{follow-steady}
use Rattle.fib_resolve.proofs.laws.follow_is_steady.Goals as goal

pub returns : goal.returns
returns c S n e h sound long = follow-steady S sound n e h long
