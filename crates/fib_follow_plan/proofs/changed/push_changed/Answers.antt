use Rattle.std.proofs.Common.{map, refl, sym, ap, ap₂, subst, ◌∙◌}
use Rattle.fib_entries_rows.specs.Known.{prefix_of}
use Rattle.fib_follow_features.specs.FoundBy.{pair_features}
use Rattle.fib_follow_plan.specs.inner.Telling.{IsMerged}
use Rattle.fib_follow_plan.proofs.changed.push_changed.Goals as goal

pub returns : goal.returns
returns c = (
  record { prefix = c.args.x.now.prefix; old = c.in_ok-old.old; new = c.in_ok-new.new },
  c.in_ok-push.ensures.items,
  refl,
  c.in_ok-old.ensures,
  λ after h. c.in_ok-new.ensures
      ∙ ap₂ (λ cover l. pair_features c.args.x.now.prefix cover l)
      (c.cover-cover.ensures after (subst (λ l. IsMerged l c.args.covers.now after) (sym (c.order.ensures.same ∙ ap (λ b. map prefix_of b.rows) c.before-2.ensures)) h))
      c.as_slice.ensures,
)
