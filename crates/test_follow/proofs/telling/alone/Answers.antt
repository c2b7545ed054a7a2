use Rattle.std.proofs.Common.{[], ◌∷◌, ◌++◌, map, sym, ◌∙◌, ap, subst}
use Rattle.std.specs.List.Sorted.{IsStrictlySortedBy}
use Rattle.fib_cover.specs.Covers.{IsAscending}
use Rattle.fib_follow_view.specs.Views.{anew_prefix}
use Rattle.fib_follow_view.specs.declared.view.Anew.{Anew}
use Rattle.test_follow.proofs.telling.alone.Goals as goal

single : (x : Anew) → IsAscending (map anew_prefix (x ∷ []))
unfolding IsStrictlySortedBy
single x = (tt, tt)

pub returns : goal.returns
returns c = subst (λ l. IsAscending (map anew_prefix l))
    (sym (c.in_ok-push.ensures.ok ∙ ap (λ l. l ++ c.args.anew ∷ []) c.new-out.ensures)) (single c.args.anew)
