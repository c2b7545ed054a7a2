use Rattle.std.proofs.Common.{map, sym, ap, ap₂, subst, ◌∙◌}
use Rattle.fib_entries_rows.specs.Known.{prefix_of}
use Rattle.fib_follow_features.specs.FoundBy.{cover_among, features_of, held_list, row_features}
use Rattle.fib_follow_plan.specs.inner.Telling.{IsMerged}
use Rattle.fib_follow_plan.proofs.asked.push_row.Goals as goal

pub returns : goal.returns
returns c =
    let own = ap (λ z. z.prefix) c.row.view_is in (
      record { prefix = c.row.inside.prefix; old = c.in_ok-old.old; new = c.in_ok-new.new },
      c.in_ok-push.ensures.items,
      own,
      c.in_ok-old.ensures
          ∙ ap₂ (λ l order. row_features l order c.args.row.now) (c.lists.ensures ∙ ap (λ b. b.lists) c.before-before.ensures)
          (c.order-2.ensures.same ∙ ap (λ b. map prefix_of b.rows) c.before-before.ensures),
      λ after h. c.in_ok-new.ensures
          ∙ ap₂ (λ cover l. features_of c.args.row.now.prefix cover (map (held_list l) c.args.row.now.pairs))
          (c.cover-cover.ensures after (subst (λ l. IsMerged l c.args.covers.now after)
          (sym (c.order.ensures.same ∙ ap (λ b. map prefix_of b.rows) c.before-before.ensures)) h)
          ∙ ap (cover_among after) own) (c.lists-2.ensures ∙ ap (λ b. b.lists) c.before-before.ensures),
    )
