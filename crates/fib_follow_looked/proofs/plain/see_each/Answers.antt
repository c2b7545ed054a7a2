use Rattle.std.proofs.Common.{arith, ◌<◌, ◌^◌, [], ◌∷◌, List, inl, inr, subst, sym, take}
use Rattle.std.specs.Prelude.{Contains}
use Rattle.std.proofs.lemmas.List.Elements.{Contains-append_cases}
use Rattle.fib_base_list.proofs.Lists.{Contains-nil}
use Rattle.fib_cover.proofs.Sets.{take_whole}
use Rattle.fib_resolve.specs.declared.types.Neighbor.{Neighbor}
use Rattle.fib_resolve_changes.proofs.Edits.{in_cases}
use Rattle.fib_entries_rows.proofs.Anew.{take_more}
use Rattle.fib_follow_looked.proofs.plain.see_each.Goals as goal

pub loop-place-init : goal.loop-place-init
loop-place-init c = λ m k. absurd (Contains-nil m k)

pub loop-place-preserved : goal.loop-place-preserved
loop-place-preserved c = λ m k.
    let n = c.index-n.result.now in
    let xs = c.args.neighbors.now in
    let more = take_more xs c.loop-place.place n (omega (arith, c.loop-place-test.true, c.len-place-end.ensures)) c.index-n.ensures in
    elim (Contains-append_cases (take c.loop-place.place xs) (n ∷ []) m (subst (λ (l : List Neighbor). Contains l m) more k)) [
      | inl early ↦ c.loop-place.invariant m early
      | inr late ↦ elim (in_cases n m [] late) [
        | inl same ↦ subst (λ (z : Neighbor). z.addr < 2 ^ 32) same (subst (λ a. a < 2 ^ 32) c.number_of-number.ensures.value c.number_of-number.ensures.small)
        | inr none ↦ absurd (Contains-nil m none)
      ]
    ]

pub returns : goal.returns
returns c = λ m k. c.loop-place.invariant m
    (subst (λ (l : List Neighbor). Contains l m)
    (sym (take_whole c.args.neighbors.now c.loop-place.place (omega (arith, c.loop-place-test.false, c.len-place-end.ensures)))) k)
