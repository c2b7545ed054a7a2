use Rattle.std.proofs.Common.{◌≡◌, ◌++◌, ap, ap₂, flat_map, subst, sym, ◌∙◌, ◌↔◌}
use Rattle.std.specs.Prelude.{Contains}
use Rattle.std.specs.List.{IsDistinct}
use Rattle.std.specs.Set.{unique_keys}
use Rattle.std.proofs.lemmas.Result.{IfOk-weaker}
use Rattle.fib_resolve.specs.Sizes.{same_adjacency}
use Rattle.fib_resolve.specs.declared.pairs.Adjacency.{Adjacency}
use Rattle.fib_resolve.specs.declared.types.Tables.{Tables}
use Rattle.fib_follow_view.specs.Views.{IsAfter}
use Rattle.fib_follow_view.specs.declared.view.Anew.{Anew}
use Rattle.fib_follow_sized.specs.Holders.{IsAsked}
use Rattle.fib_follow_sized.specs.inner.Counts.{ends_after, ends_before}
use Rattle.fib_follow_sized.proofs.Ended.{once_apart}
use Rattle.fib_follow_sized.proofs.Totals.{all_asked}
use Rattle.fib_follow_sized.proofs.ends.asked_ends.Goals as goal

pub returns-clause-once : goal.returns-clause-once
returns-clause-once c =
    IfOk-weaker c.distinct.result (λ v. v.items ≡ unique_keys same_adjacency c.as_slice-2.result.now) (λ v. IsDistinct same_adjacency v.items)
    (λ v is. subst (IsDistinct same_adjacency) (sym is) (once_apart c.as_slice-2.result.now)) c.distinct.ensures

pub returns-clause-asked : goal.returns-clause-asked
returns-clause-asked c =
    let v = c.args.view.now in
    let before = c.in_ok-all.ensures ∙ ap (flat_map (λ (x : Anew). ends_before v x.prefix)) c.changed.ensures.changed in
    let after = c.as_slice.ensures.value ∙ (c.in_ok-after.ensures ∙ ap (flat_map (λ (x : Anew). ends_after v x.prefix)) c.changed-2.ensures.changed) in
    let all = c.as_slice-2.ensures.value ∙ (c.in_ok-extend_from_slice.ensures.items ∙ ap₂ (λ xs ys. xs ++ ys) before after) in
    IfOk-weaker c.distinct.result (λ o. o.items ≡ unique_keys same_adjacency c.as_slice-2.result.now)
    (λ o. (S T : Tables) → IsAfter v S T → (x : Adjacency) → Contains o.items x ↔ IsAsked v S T x)
    (λ o is. λ S T h x. subst (λ l. Contains l x ↔ IsAsked v S T x) (sym (is ∙ ap (unique_keys same_adjacency) all)) (all_asked v S T h x)) c.distinct.ensures
