use Rattle.std.proofs.Common.{ap, ◌∙◌}
use Rattle.fib_follow_view.specs.inner.Told.{is_row}
use Rattle.fib_follow_view.proofs.Told.{row_is}
use Rattle.fib_follow_view.proofs.before.Before.is_entry.Goals as goal

pub returns-in-Some-clause-before : goal.returns-in-Some-clause-before
returns-in-Some-clause-before c = λ S h. ap is_row c.in-Some.ensures.value ∙ row_is c.args.self.now S h c.args.e

pub returns-in-None-clause-before : goal.returns-in-None-clause-before
returns-in-None-clause-before c = λ S h. ap is_row c.in-None.ensures.value ∙ row_is c.args.self.now S h c.args.e
