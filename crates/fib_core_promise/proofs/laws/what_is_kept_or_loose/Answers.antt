use Rattle.fib_core_promise.proofs.Kept.{kept_or_loose}
use Rattle.fib_core_promise.proofs.laws.what_is_kept_or_loose.Goals as goal

pub returns : goal.returns
returns c = kept_or_loose
