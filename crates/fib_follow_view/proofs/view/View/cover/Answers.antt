use Rattle.std.proofs.Common.{None, ap, ◌∙◌}
use Rattle.fib_follow_view.specs.inner.Told.{cover_by}
use Rattle.fib_follow_view.proofs.After.{cover_after}
use Rattle.fib_follow_view.proofs.view.View.cover.Goals as goal

pub returns-in-Some-clause-after : goal.returns-in-Some-clause-after
returns-in-Some-clause-after c = λ S T p h k is. ap (cover_by c.args.self.now.before c.args.e) c.in-Some.ensures
    ∙ cover_after c.args.self.now S T h c.args.e p k is

pub returns-in-None-clause-after : goal.returns-in-None-clause-after
returns-in-None-clause-after c = λ S T p h k is.
    c.cover.ensures ∙ (ap (λ z. cover_by z.before c.args.e None) c.self.view_is
    ∙ (ap (cover_by c.args.self.now.before c.args.e) c.in-None.ensures ∙ cover_after c.args.self.now S T h c.args.e p k is))
