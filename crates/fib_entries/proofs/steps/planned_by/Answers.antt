use Rattle.std.proofs.Common.{List, ℕ, subst, sym}
use Rattle.std.specs.Prelude.{IfSome}
use Rattle.fib_resolve.specs.declared.types.Tables.{Tables}
use Rattle.fib_follow_view.specs.Views.{IsAfter}
use Rattle.fib_follow_part.specs.Parts.{AreRanks, IsPart}
use Rattle.fib_entries.proofs.steps.planned_by.Goals as goal

pub returns-in_ok-planned-in-Some-clause-works : goal.returns-in_ok-planned-in-Some-clause-works
returns-in_ok-planned-in-Some-clause-works c = λ S from after part.
    let v = c.args.view.now in
    let p = c.args.part.now in
    let T = c.args.course.now.after.now.tables in
    let found = subst (λ o. IfSome o (λ x. (S T : Tables) → IsAfter v S T → IsPart v S T p → AreRanks v S T p x.items))
    c.in-Some.is c.in_ok-ranks.ensures.some in
    c.in_ok-planned-in-Some.ensures.works S from after part
    (subst (λ (l : List ℕ). AreRanks v S T p l) (sym c.as_slice.ensures.value) (found S T after part))
