use Rattle.fib_core_steady.proofs.Quiet.{settled_answers}
use Rattle.fib_core_steady.proofs.laws.one_version_is_answered.Goals as goal

pub returns : goal.returns
returns c = settled_answers
