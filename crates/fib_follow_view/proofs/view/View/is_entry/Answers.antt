use Rattle.std.proofs.Common.{None, ap, ◌∙◌}
use Rattle.fib_follow_view.specs.inner.Told.{are_some, entry_by}
use Rattle.fib_follow_view.proofs.After.{entry_after}
use Rattle.fib_follow_view.proofs.view.View.is_entry.Goals as goal

pub returns-in-Some-clause-after : goal.returns-in-Some-clause-after
returns-in-Some-clause-after c = λ S T h. c.are_some.ensures
    ∙ (ap are_some c.as_slice.ensures
    ∙ (ap (entry_by c.args.self.now.before c.args.e) c.in-Some.ensures ∙ entry_after c.args.self.now S T h c.args.e))

pub returns-in-None-clause-after : goal.returns-in-None-clause-after
returns-in-None-clause-after c = λ S T h. c.is_entry.ensures.value
    ∙ (ap (λ z. entry_by z.before c.args.e None) c.self.view_is
    ∙ (ap (entry_by c.args.self.now.before c.args.e) c.in-None.ensures ∙ entry_after c.args.self.now S T h c.args.e))
