use Rattle.std.proofs.Common.{sym}
use Rattle.fib_config.proofs.Batches.{undone_within_last}
use Rattle.fib_config.proofs.changes.is_within_last.Goals as goal

pub returns-in-Some : goal.returns-in-Some
returns-in-Some c = λ is S. undone_within_last c.args.undos.now c.in-Some.last.now c.args.later.now S (sym c.in-Some.ensures.value) (c.is_within.ensures is)
