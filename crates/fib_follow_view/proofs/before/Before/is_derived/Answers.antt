use Rattle.std.proofs.Common.{ap, ◌∙◌}
use Rattle.fib_follow_view.specs.inner.Told.{derived_row, first_derived}
use Rattle.fib_follow_view.proofs.Told.{row_derived}
use Rattle.fib_follow_view.proofs.before.Before.is_derived.Goals as goal

pub returns-in-Some-clause-before : goal.returns-in-Some-clause-before
returns-in-Some-clause-before c = λ S h. c.is_first_derived.ensures
    ∙ (ap first_derived c.pairs.ensures ∙ (ap derived_row c.in-Some.ensures.value ∙ row_derived c.args.self.now S h c.args.e))

pub returns-in-None-clause-before : goal.returns-in-None-clause-before
returns-in-None-clause-before c = λ S h. ap derived_row c.in-None.ensures.value ∙ row_derived c.args.self.now S h c.args.e
