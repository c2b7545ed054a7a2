use Rattle.std.proofs.Common.{arith, ◌∷◌, [], List, inl, inr, subst, sym, take}
use Rattle.std.specs.Prelude.{Contains}
use Rattle.std.proofs.lemmas.List.Elements.{Contains-append_cases}
use Rattle.fib_base_list.proofs.Lists.{Contains-nil}
use Rattle.fib_addr.specs.Prefixes.{IsPrefix}
use Rattle.fib_cover.proofs.Sets.{take_whole}
use Rattle.fib_resolve_changes.proofs.Edits.{in_cases}
use Rattle.fib_entries_rows.proofs.Anew.{take_more}
use Rattle.fib_follow_view.specs.declared.view.Anew.{Anew}
use Rattle.fib_follow_plan.proofs.lists.see_prefixes.Goals as goal

pub changed-preserved : goal.changed-preserved
changed-preserved c = λ m k.
    let n = c.index.result.now in
    let xs = c.args.changed.now in
    let more = take_more xs c.changed.place n (omega (arith, c.changed-test.true, c.len-place-end.ensures)) c.index.ensures in
    elim (Contains-append_cases (take c.changed.place xs) (n ∷ []) m (subst (λ (l : List Anew). Contains l m) more k)) [
      | inl early ↦ c.changed.invariant m early
      | inr late ↦ elim (in_cases n m [] late) [
        | inl same ↦ subst (λ (z : Anew). IsPrefix z.prefix) same c.len-length.ensures.prefix
        | inr none ↦ absurd (Contains-nil m none)
      ]
    ]

pub returns : goal.returns
returns c = λ m k. c.changed.invariant m
    (subst (λ (l : List Anew). Contains l m)
    (sym (take_whole c.args.changed.now c.changed.place (omega (arith, c.changed-test.false, c.len-place-end.ensures)))) k)
