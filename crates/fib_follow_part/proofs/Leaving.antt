-- Edges that leave a part.
use Rattle.std.proofs.Common.{arith, ◌≡◌, ℕ, ◌+◌, ◌≤◌, List, [], ◌∷◌, ◌++◌, length, take, get_or, Some, inl, inr, sym, ◌∙◌, ap, subst}
use Rattle.std.proofs.Common.{slice_get}
use Rattle.std.specs.Prelude.{Contains}
use Rattle.std.proofs.lemmas.Bool.{cases_lt}
use Rattle.std.proofs.lemmas.List.Elements.{Contains-append_left, Contains-append_right, Contains-append_cases}
use Rattle.std.proofs.lemmas.Option.{slice_get_within, slice_get-get_or}
use Rattle.fib_base_list.proofs.Lists.{Contains-nil}
use Rattle.fib_addr.specs.Prefixes.{Prefix}
use Rattle.fib_base_interned.proofs.Finding.{some_is}
use Rattle.fib_resolve_changes.proofs.Edits.{in_cases, in_front}
use Rattle.fib_entries_rows.proofs.Anew.{take_more, take_all}
use Rattle.fib_follow_part.specs.inner.Searched.{AddsOut, AddsOuts, AreLeaving}

pub out_put : (order : List Prefix) (from : ℕ) (t : Prefix) (old new : List (ℕ × Prefix)) → (Contains order t → ⊥) → new ≡ old ++ (from, t) ∷ []
    → AddsOut order from t old new
out_put order from t old new off made d = (
  λ c. elim (Contains-append_cases old ((from, t) ∷ []) d (subst (λ l. Contains l d) made c)) [
    | inl early ↦ inl early
    | inr late ↦ elim (in_cases (from, t) d [] late) [
      | inl is ↦ inr (
        ap (λ (z : ℕ × Prefix). z.0) (sym is),
        ap (λ (z : ℕ × Prefix). z.1) (sym is),
        off,
      )
      | inr none ↦ absurd (Contains-nil d none)
    ]
  ],
  λ k. subst (λ l. Contains l d) (sym made) (elim k [
    | inl c ↦ Contains-append_left old ((from, t) ∷ []) d c
    | inr n ↦ Contains-append_right old ((from, t) ∷ []) d
        (in_front (from, t) d [] (ap (λ z. (from, z)) (sym n.1) ∙ ap (λ z. (z, d.1)) (sym n.0)))
  ]),
)

pub out_none : (order : List Prefix) (from : ℕ) (t : Prefix) (old : List (ℕ × Prefix)) → Contains order t → AddsOut order from t old old
out_none order from t old there d = (λ c. inl c, λ k. elim k [ inl c ↦ c | inr n ↦ absurd (n.2 there) ])

outs_more : (order : List Prefix) (from : ℕ) (done : List Prefix) (t : Prefix) (old mid new : List (ℕ × Prefix)) → AddsOuts order from done old mid
    → AddsOut order from t mid new → AddsOuts order from (done ++ t ∷ []) old new
outs_more order from done t old mid new before adds d = (
  λ c. elim ((adds d).0 c) [
    | inl early ↦ elim ((before d).0 early) [ inl o ↦ inl o | inr x ↦ inr (x.0, Contains-append_left done (t ∷ []) d.1 x.1, x.2) ]
    | inr mine ↦ inr (mine.0, Contains-append_right done (t ∷ []) d.1 (in_front t d.1 [] (sym mine.1)), λ k. mine.2 (subst (Contains order) mine.1 k))
  ],
  λ k. elim k [
    | inl o ↦ (adds d).1 (inl ((before d).1 (inl o)))
    | inr x ↦ elim (Contains-append_cases done (t ∷ []) d.1 x.1) [
      | inl early ↦ (adds d).1 (inl ((before d).1 (inr (x.0, early, x.2))))
      | inr late ↦ elim (in_cases t d.1 [] late) [ inl is ↦ (adds d).1 (inr (x.0, sym is, λ k. x.2 (subst (Contains order) is k))) | inr none ↦ absurd (Contains-nil d.1 none) ]
    ]
  ],
)

pub outs_none : (order : List Prefix) (from : ℕ) (old : List (ℕ × Prefix)) → AddsOuts order from [] old old
outs_none order from old d = (λ c. inl c, λ k. elim k [ inl c ↦ c | inr x ↦ absurd (Contains-nil d.1 x.1) ])

pub outs_step : (order : List Prefix) (from : ℕ) (targets : List Prefix) (i : ℕ) (t : Prefix) (old mid new : List (ℕ × Prefix))
    → slice_get targets i ≡ Some t → AddsOuts order from (take i targets) old mid → AddsOut order from t mid new
    → AddsOuts order from (take (i + 1) targets) old new
outs_step order from targets i t old mid new here before adds =
    let inside = slice_get_within targets i t here in
    let is : t ≡ get_or targets i t = some_is t (get_or targets i t) (sym here ∙ slice_get-get_or targets i t inside) in
    subst (λ l. AddsOuts order from l old new) (sym (take_more targets i t inside is)) (outs_more order from (take i targets) t old mid new before adds)

pub outs_whole : (order : List Prefix) (from : ℕ) (targets : List Prefix) (i : ℕ) (old new : List (ℕ × Prefix)) → length targets ≤ i
    → AddsOuts order from (take i targets) old new → AddsOuts order from targets old new
outs_whole order from targets i old new le h = subst (λ l. AddsOuts order from l old new) (take_all targets i le) h

module _ (next : Prefix → List Prefix) (order : List Prefix) where
  pub leaving_none : AreLeaving next order 0 []
  leaving_none d = (λ c. absurd (Contains-nil d c), λ k. absurd (let lt = k.0 in omega (arith, lt)))

  pub leaving_more : (from : ℕ) (e : Prefix) (ahead : List Prefix) (old new : List (ℕ × Prefix)) → AreLeaving next order from old
      → slice_get order from ≡ Some e → ahead ≡ next e → AddsOuts order from ahead old new → AreLeaving next order (from + 1) new
  leaving_more from e ahead old new before here is_next adds d = (
    λ c. elim ((adds d).0 c) [
      | inl early ↦ (let r = (before d).0 early in ((let lt = r.0 in omega (arith, lt)), r.1, r.2, r.3, r.4))
      | inr x ↦ ((let is = x.0 in omega (arith, is)), e, ap (slice_get order) x.0 ∙ here, subst (λ l. Contains l d.1) is_next x.1, x.2)
    ],
    λ k. elim (cases_lt d.0 from) [
      | inl low ↦ (adds d).1 (inl ((before d).1 (low, k.1, k.2, k.3, k.4)))
      | inr high ↦ (let is : d.0 ≡ from = (let lt = k.0 in omega (arith, lt, high)) in
          let own = some_is k.1 e (sym k.2 ∙ (ap (slice_get order) is ∙ here)) in
          (adds d).1 (inr (is, subst (λ l. Contains l d.1) (sym is_next) (subst (λ z. Contains (next z) d.1) own k.3), k.4)))
    ],
  )
