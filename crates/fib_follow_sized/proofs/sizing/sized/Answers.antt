use Rattle.std.proofs.Common.{◌≡◌, ◌+◌, ◌-◌, ◌^◌, ℕ, map, min, ap, subst, sym, ◌∙◌}
use Rattle.std.proofs.lemmas.Result.{IfOk-weaker}
use Rattle.fib_cover.specs.Covers.{IsAscending}
use Rattle.fib_resolve.specs.Sizes.{size}
use Rattle.fib_resolve.specs.declared.types.Tables.{Tables}
use Rattle.fib_entries_rows.specs.Known.{prefix_of}
use Rattle.fib_follow_view.specs.Views.{IsAfter}
use Rattle.fib_follow_sized.specs.Holders.{AreHolders}
use Rattle.fib_follow_sized.proofs.Totals.{size_counted}
use Rattle.fib_follow_sized.proofs.sizing.sized.Goals as goal

pub count_before-requires-clause-ordered : goal.count_before-requires-clause-ordered
count_before-requires-clause-ordered c =
    subst (λ l. IsAscending (map prefix_of l)) (ap (λ k. k.rows) c.before-2.ensures ∙ sym c.requires) c.order-order.ensures.ordered

pub count_after-requires-clause-ordered : goal.count_after-requires-clause-ordered
count_after-requires-clause-ordered c =
    subst (λ l. IsAscending (map prefix_of l)) (ap (λ k. k.rows) c.before-2.ensures ∙ sym c.requires) c.order-order.ensures.ordered

pub returns-clause-size : goal.returns-clause-size
returns-clause-size c =
    let v = c.args.view.now in
    IfOk-weaker c.resized.result
    (λ n. (s t : ℕ) → c.objects.result ≡ min s (2 ^ 32 - 1) → t + c.in_ok-less.less ≡ s + c.in_ok-more.more → n ≡ min t (2 ^ 32 - 1))
    (λ n. (S T : Tables) → IsAfter v S T → AreHolders v S T c.args.held.now.keys → n ≡ min (size T) (2 ^ 32 - 1))
    (λ n r. λ S T h holds. r (size S) (size T) (c.objects.ensures ∙ (ap (λ k. k.objects) c.before-3.ensures ∙ h.stands.objects))
    (ap (λ m. size T + m) c.in_ok-less.ensures ∙ (size_counted v S T h c.args.held.now.keys holds c.in_ok-moving.ensures.ordered
    ∙ ap (λ m. size S + m) (sym c.in_ok-more.ensures))))
    c.resized.ensures.size
