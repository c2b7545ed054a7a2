use Rattle.std.proofs.Common.{map, inl, inr, subst, ◌∙◌, ap}
use Rattle.std.specs.Prelude.{Contains}
use Rattle.fib_base_list.proofs.Lists.{Contains-nil}
use Rattle.fib_cover.specs.Covers.{ArePrefixes, IsAscending}
use Rattle.fib_entries_rows.specs.Known.{prefix_of}
use Rattle.fib_follow_plan.proofs.Growing.{listed_stays}
use Rattle.fib_follow_plan.proofs.Telling.{are_told}
use Rattle.fib_follow_plan.proofs.gather.renoted.Goals as goal

pub returns-clause-old : goal.returns-clause-old
returns-clause-old c = λ y k. elim (c.in_ok-add_all_asked.ensures.grows.was y k) [
  | inl old ↦ elim (c.in_ok-add_changed.ensures.grows.was y old) [
    | inl none ↦ absurd (Contains-nil y (subst (λ l. Contains l y) c.new-out.ensures.items none))
    | inr fine ↦ fine
  ]
  | inr fine ↦ fine
]

pub returns-clause-told : goal.returns-clause-told
returns-clause-told c = λ p ranks bodies x noted fits.
    let v = c.args.view.now in
    let covers = c.in_ok-covers.covers in
    let mid = c.add_changed.new.out.items in
    let list = c.add_all_asked.new.out.items in
    let early = c.in_ok-add_changed.ensures.grows in
    let late = c.in_ok-add_all_asked.ensures.grows in
    are_told v covers c.args.features.now list
    (subst (λ b. IsAscending (map prefix_of b.rows)) c.before-2.ensures c.order.ensures.ordered)
    (subst ArePrefixes (c.order.ensures.same ∙ ap (λ b. map prefix_of b.rows) c.before-2.ensures) c.len-count.ensures.prefixes)
    c.in_ok-covers.ensures.prefixes c.in_ok-covers.ensures.come c.in_ok-covers.ensures.gone
    (λ y k. elim (late.good y k) [
      | inl old ↦ elim (early.good y old) [
        | inl none ↦ absurd (Contains-nil y (subst (λ l. Contains l y) c.new-out.ensures.items none))
        | inr fine ↦ fine
      ]
      | inr fine ↦ fine
    ])
    (λ z k. listed_stays v covers mid list z.prefix late (c.in_ok-add_changed.ensures.all z k)) c.in_ok-add_all_asked.ensures.asked noted p ranks bodies
    x fits
