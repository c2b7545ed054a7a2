use Rattle.std.proofs.Common.{Some, map, sym, ap, subst, ◌∙◌}
use Rattle.fib_entries_rows.specs.Known.{prefix_of, row_of}
use Rattle.fib_follow_view.specs.inner.Told.{is_row}
use Rattle.fib_follow_plan.specs.inner.Telling.{IsNearest}
use Rattle.fib_follow_plan.proofs.Growing.{entry_there}
use Rattle.fib_follow_plan.proofs.asked.come_under.Goals as goal

pub returns-then-is_entry : goal.returns-then-is_entry
returns-then-is_entry c = λ z new h.
    absurd (new (entry_there c.args.view.now.before.rows c.args.q
    (sym (c.is_entry.ensures.value ∙ ap (λ b. is_row (row_of b.rows c.args.q)) c.before-2.ensures) ∙ c.if-is_entry.true)))

pub returns : goal.returns
returns c = λ z new h.
    ap Some (c.above.ensures z (subst (λ l. IsNearest l c.args.q z)
    (sym (c.order.ensures.same ∙ ap (λ b. map prefix_of b.rows) c.before-3.ensures)) h))
