use Rattle.std.proofs.Common.{[], true, false, subst}
use Rattle.fib_follow_looked.specs.inner.Adding.{AddsEach}
use Rattle.fib_follow_plan.specs.inner.Telling.{has_so}
use Rattle.fib_follow_plan.proofs.Growing.{so_are}
use Rattle.fib_follow_plan.proofs.covers.Covers.of.Goals as goal

pub returns-clause-come : goal.returns-clause-come
returns-clause-come c = so_are true c.args.view.now.changed c.in_ok-come.come
    (subst (λ l. AddsEach (has_so true) l [] c.in_ok-come.come) c.changed.ensures.changed c.in_ok-come.ensures.each)

pub returns-clause-gone : goal.returns-clause-gone
returns-clause-gone c = so_are false c.args.view.now.changed c.in_ok-gone.gone
    (subst (λ l. AddsEach (has_so false) l [] c.in_ok-gone.gone) c.changed-2.ensures.changed c.in_ok-gone.ensures.each)
