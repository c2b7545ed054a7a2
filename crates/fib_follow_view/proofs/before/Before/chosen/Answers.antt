use Rattle.std.proofs.Common.{ap, ap₂, subst, sym, ◌∙◌}
use Rattle.fib_entries_rows.specs.inner.Compare.{AreKept}
use Rattle.fib_follow_view.specs.inner.Told.{chosen_row, list_first}
use Rattle.fib_follow_view.proofs.Told.{row_chosen}
use Rattle.fib_follow_view.proofs.before.Before.chosen.Goals as goal

pub first_list-requires : goal.first_list-requires
first_list-requires c = subst (AreKept c.self.inside.lists.now) (sym c.pairs.ensures)
    (subst (λ ls. AreKept ls c.in-Some.r.now.pairs) (sym (ap (λ z. z.lists) c.self.view_is)) c.in-Some.ensures.held)

pub returns-in-Some-clause-before : goal.returns-in-Some-clause-before
returns-in-Some-clause-before c = λ S h.
    c.first_list.ensures
    ∙ (ap₂ list_first (ap (λ z. z.lists) c.self.view_is) c.pairs.ensures
    ∙ (ap (chosen_row c.args.self.now.lists) c.in-Some.ensures.value ∙ row_chosen c.args.self.now S h c.args.e))

pub returns-in-None-clause-before : goal.returns-in-None-clause-before
returns-in-None-clause-before c = λ S h. ap (chosen_row c.args.self.now.lists) c.in-None.ensures.value ∙ row_chosen c.args.self.now S h c.args.e
