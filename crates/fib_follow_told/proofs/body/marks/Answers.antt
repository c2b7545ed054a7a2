use Rattle.std.proofs.Common.{◌≡◌, subst}
use Rattle.std.specs.Prelude.{IfOk}
use Rattle.fib_follow_told.specs.inner.Marks.{mark_by, marks_by}
use Rattle.fib_follow_view.specs.inner.Told.{chosen_in}
use Rattle.fib_follow_told.proofs.body.marks.Goals as goal

pub returns : goal.returns
returns c =
    subst (λ o. IfOk c.marks_over.result (λ v. v.items
    ≡ marks_by (mark_by c.args.config.now.tables c.args.view.now o c.args.e) (chosen_in c.args.view.now c.args.e) c.args.looped.now))
    c.cover-cover.ensures.value c.marks_over.ensures
