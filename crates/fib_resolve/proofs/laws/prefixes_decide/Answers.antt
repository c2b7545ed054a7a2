use Rattle.fib_resolve.proofs.Covering.{prefixes_decide}
use Rattle.fib_resolve.proofs.laws.prefixes_decide.Goals as goal

pub returns : goal.returns
returns c = prefixes_decide
