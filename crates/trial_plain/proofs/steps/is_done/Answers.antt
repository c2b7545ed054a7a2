use Rattle.std.proofs.Common.{arith}
use Rattle.std.proofs.lemmas.Bool.Decides.{nat_tests}
use Rattle.fib_control.proofs.Turned.{empty_by}
use Rattle.trial_plain.proofs.steps.is_done.Goals as goal

pub returns : goal.returns
returns c = λ is. empty_by _ c.queued.result c.queued.ensures (grind (arith, nat_tests))
