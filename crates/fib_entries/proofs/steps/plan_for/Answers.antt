use Rattle.std.proofs.Common.{◌≡◌, sym, ap, ◌∙◌, subst}
use Rattle.fib_resolve.specs.declared.types.Tables.{Tables}
use Rattle.fib_entries_rows.specs.Known.{Known}
use Rattle.fib_follow_view.specs.Views.{IsAfter, Seen}
use Rattle.fib_entries.specs.inner.Planned.{IsFrom, IsPlanned, IsSize}
use Rattle.fib_entries.proofs.Carrying.{by_four}
use Rattle.fib_entries.proofs.steps.plan_for.Goals as goal

pub returns-clause-planned : goal.returns-clause-planned
returns-clause-planned c =
    let k = c.args.course.now in
    let T = k.after.now.tables in
    let list = k.changes.now in
    let v = c.new-view.result in
    let view_is : v ≡ record { before = k.before; changed = c.in_ok-changed.changed } =
    c.new-view.ensures ∙ ap (λ (b : Known). record { before = b; changed = c.in_ok-changed.changed }) c.again.ensures in
    let after : (S : Tables) → IsFrom k.before list S T → IsAfter v S T =
    λ S f. subst (λ (z : Seen). IsAfter z S T) (sym view_is) (c.in_ok-changed.ensures.after S f) in
    let same : v.before ≡ k.before = ap (λ (z : Seen). z.before) view_is in
    by_four _ _ _ _ (IsPlanned k.before list T) (λ x suits noted objects works. record {
      suits = suits;
      noted = noted;
      works = λ S f. (v, same, works S f (after S f));
      sized = λ S f. subst (IsSize T) (sym objects) (c.in_ok-objects.ensures S (after S f));
    }) c.in_ok-planned.planned c.in_ok-planned.ensures.suits c.in_ok-planned.ensures.noted c.in_ok-planned.ensures.objects c.in_ok-planned.ensures.works
