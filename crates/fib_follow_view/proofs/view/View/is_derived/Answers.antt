use Rattle.std.proofs.Common.{None, ap, ◌∙◌}
use Rattle.fib_follow_view.specs.inner.Told.{derived_by, derived_pairs}
use Rattle.fib_follow_view.proofs.After.{derived_after}
use Rattle.fib_follow_view.proofs.view.View.is_derived.Goals as goal

pub returns-in-Some-clause-after : goal.returns-in-Some-clause-after
returns-in-Some-clause-after c = λ S T h. c.is_pair_derived.ensures
    ∙ (ap derived_pairs c.as_slice.ensures
    ∙ (ap (derived_by c.args.self.now.before c.args.e) c.in-Some.ensures ∙ derived_after c.args.self.now S T h c.args.e))

pub returns-in-None-clause-after : goal.returns-in-None-clause-after
returns-in-None-clause-after c = λ S T h. c.is_derived.ensures.value
    ∙ (ap (λ z. derived_by z.before c.args.e None) c.self.view_is
    ∙ (ap (derived_by c.args.self.now.before c.args.e) c.in-None.ensures ∙ derived_after c.args.self.now S T h c.args.e))
