use Rattle.std.proofs.Common.{None, ap, ◌∙◌}
use Rattle.fib_follow_view.specs.inner.Told.{chosen_by, first_paths}
use Rattle.fib_follow_view.proofs.After.{chosen_after}
use Rattle.fib_follow_view.proofs.view.View.chosen.Goals as goal

pub returns-in-Some-clause-after : goal.returns-in-Some-clause-after
returns-in-Some-clause-after c = λ S T h. c.first_paths.ensures
    ∙ (ap first_paths c.as_slice.ensures
    ∙ (ap (chosen_by c.args.self.now.before c.args.e) c.in-Some.ensures ∙ chosen_after c.args.self.now S T h c.args.e))

pub returns-in-None-clause-after : goal.returns-in-None-clause-after
returns-in-None-clause-after c = λ S T h. c.chosen.ensures.value
    ∙ (ap (λ z. chosen_by z.before c.args.e None) c.self.view_is
    ∙ (ap (chosen_by c.args.self.now.before c.args.e) c.in-None.ensures ∙ chosen_after c.args.self.now S T h c.args.e))
