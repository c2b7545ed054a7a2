use Rattle.fib_union.proofs.Telling.{passed_iff}
use Rattle.fib_union.proofs.laws.passed_when_over.Goals as goal

pub returns : goal.returns
returns c = passed_iff c.args.words.now
