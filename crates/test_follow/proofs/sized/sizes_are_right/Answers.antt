use Rattle.std.proofs.Common.{[], ◌∷◌, ◌++◌, map, sym, ◌∙◌, ap, subst}
use Rattle.std.specs.List.Sorted.{IsStrictlySortedBy}
use Rattle.fib_cover.specs.Covers.{IsAscending}
use Rattle.fib_follow_view.specs.Views.{anew_prefix}
use Rattle.fib_follow_view.specs.declared.view.Anew.{Anew}
use Rattle.test_follow.proofs.sized.sizes_are_right.Goals as goal

single : (x : Anew) → IsAscending (map anew_prefix (x ∷ []))
unfolding IsStrictlySortedBy
single x = (tt, tt)

pub new-view-requires : goal.new-view-requires
new-view-requires c =
    subst (λ l. IsAscending (map anew_prefix l))
    (sym (c.in_ok-push.ensures.ok ∙ ap (λ l. l ++ c.in_ok-route_anew.field-0 ∷ []) c.new-changed.ensures))
    (single c.in_ok-route_anew.field-0)
