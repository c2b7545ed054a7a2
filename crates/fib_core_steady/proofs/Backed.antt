-- So no edge to a ply leaves an object into which no edge to a ply leads.
use Rattle.std.proofs.Common.{◌&&◌, ◌≡◌, ◌≢◌, ◌⊎◌, inl, inr, ⊎_elim, Bool, true, false, true≢false, ℕ, List, [], ◌∷◌, refl, sym, ap, ◌∙◌, subst, get_or-set_other}
use Rattle.std.specs.Prelude.{slice_index, slice_set}
use native.Mathlib.Decide.{ℕ_discrete}
use mathlib.Core.Logic.{dite}
use Rattle.fib_core.specs.declared.word.Word.TheVariants as words
use Rattle.fib_union.specs.Unions.{owner}
use Rattle.fib_core.specs.Words.{decoded, goes}
use Rattle.fib_union.specs.Marks.{Mark}
use Rattle.fib_core.specs.Union.{Retired, Union, AnyOf, Goes, retire_if, stored, must_retire}
use Rattle.fib_core.proofs.Numbers.{goes_of, target_of}
use Rattle.fib_core.proofs.Unions.{retire_needed}
use Rattle.fib_core_steady.specs.Names.{IsWalked, LeadsNow}
use Rattle.fib_core_steady.specs.inner.Backed.{AreBacked, IsBacked, AreNewest}

-- a store that replaces an edge to a ply is into the root, or into an object to which another cell leads
abbrev pub IsBackedStore : Union → ℕ → Type 0
IsBackedStore u k = (c : ℕ) → decoded (slice_index u.cells k) ≡ words.ToPly c → owner k ≢ 0 → (j : ℕ) × (j ≢ k) × (decoded (slice_index u.cells j) ≡ words.ToPly (owner k))

backed-map : (P Q : ℕ → Type 0) → ((y : ℕ) → P y → Q y) → (rs : List Retired) → AreBacked P rs → AreBacked Q rs
backed-map P Q f [] h = tt
backed-map P Q f (r ∷ rs) h = (
  λ c is ne. f (owner r.cell) (h.0 c is ne),
  backed-map (λ y. P y ⊎ (decoded r.word ≡ words.ToPly y)) (λ y. Q y ⊎ (decoded r.word ≡ words.ToPly y)) (λ y. ⊎_elim (λ (p : P y). inl (f y p)) (λ (e : decoded r.word ≡ words.ToPly y). inr e)) rs h.1,
)

-- a scan drops the oldest alone
pub backed_newest : (P : ℕ → Type 0) (qs rs : List Retired) → AreNewest qs rs → AreBacked P rs → AreBacked P qs
backed_newest P [] rs n h = tt
backed_newest P (q ∷ qs) [] n h = absurd n
backed_newest P (q ∷ qs) (r ∷ rs) n h = (
  λ c is ne. subst P (ap owner (sym n.0)) (h.0 c (ap decoded (sym n.1) ∙ is) (λ e. ne (ap owner n.0 ∙ e))),
  backed-map (λ y. P y ⊎ (decoded r.word ≡ words.ToPly y)) (λ y. P y ⊎ (decoded q.word ≡ words.ToPly y)) (λ y. ⊎_elim (λ (p : P y). inl p) (λ (e : decoded r.word ≡ words.ToPly y). inr (ap decoded n.1 ∙ e))) qs
      (backed_newest (λ y. P y ⊎ (decoded r.word ≡ words.ToPly y)) qs rs n.2 h.1),
)

-- a store
module _ (u : Union) (fresh : List Mark) (k w : ℕ) (leads : IsBackedStore u k) (ok : IsBacked u) where
  old : ℕ
  old = slice_index u.cells k

  -- a cell that led to a ply still does, or the edge is the replaced one
  leads_still : (y : ℕ) → LeadsNow u.cells y → LeadsNow (slice_set u.cells k w) y ⊎ (decoded (slice_index u.cells k) ≡ words.ToPly y)
  leads_still y at = dite (ℕ_discrete at.0 k)
      (λ same. inr (ap (λ i. decoded (slice_index u.cells i)) (sym same) ∙ at.1))
      (λ ne. inl (at.0, ap decoded (get_or-set_other u.cells k at.0 w 0 ne) ∙ at.1))

  retired_when : (b : Bool) → must_retire u k ≡ b → (c : ℕ) → decoded (slice_index u.cells k) ≡ words.ToPly c → b && goes (slice_index u.cells k) ≡ true
  retired_when true is c ply = goes_of (slice_index u.cells k) (words.ToPly c) ply
  retired_when false is c ply =
      let alone = retire_needed u k is in
      let from = leads c ply alone.0 in
      absurd (alone.1 from.0 (slice_index u.cells from.0) (goes_of (slice_index u.cells from.0) (words.ToPly (owner k)) from.2, inl refl) (target_of (slice_index u.cells from.0) (words.ToPly (owner k)) from.2))

  by_retired : (b : Bool) → must_retire u k && goes (slice_index u.cells k) ≡ b → AreBacked (LeadsNow (slice_set u.cells k w)) (retire_if b (record { cell = k; word = slice_index u.cells k; marks = fresh }) u.retired)
  by_retired true is = (
    λ c ply ne. (let from = leads c ply ne in (from.0, ap decoded (get_or-set_other u.cells k from.0 w 0 from.1) ∙ from.2)),
    backed-map (LeadsNow u.cells) (λ y. LeadsNow (slice_set u.cells k w) y ⊎ (decoded (slice_index u.cells k) ≡ words.ToPly y)) leads_still u.retired ok,
  )
  by_retired false is = backed-map (LeadsNow u.cells) (LeadsNow (slice_set u.cells k w)) (λ y at. ⊎_elim (λ (l : LeadsNow (slice_set u.cells k w) y). l) (λ (ply : decoded (slice_index u.cells k) ≡ words.ToPly y). absurd (true≢false (sym (retired_when (must_retire u k) refl y ply) ∙ is))) (leads_still y at)) u.retired ok

  pub backed_stored : IsBacked (stored (must_retire u k) fresh u k w)
  backed_stored = by_retired (must_retire u k && goes (slice_index u.cells k)) refl

none_retired : (P : ℕ → Type 0) (rs : List Retired) (c : ℕ) → AreBacked P rs → c ≢ 0 → (P c → ⊥) → ((k w : ℕ) → AnyOf (λ r. (r.cell ≡ k) × (r.word ≡ w)) rs → decoded w ≡ words.ToPly c → ⊥) → (k w y : ℕ) → AnyOf (λ r. (r.cell ≡ k) × (r.word ≡ w)) rs → decoded w ≡ words.ToPly y → owner k ≢ c
none_retired P [] c h other none into k w y at ply same = at
none_retired P (r ∷ rs) c h other none into k w y (inl at) ply same =
    let here : owner r.cell ≡ c = ap owner at.0 ∙ same in
    none (subst P here (h.0 y (ap decoded at.1 ∙ ply) (λ z. other (sym here ∙ z))))
none_retired P (r ∷ rs) c h other none into k w y (inr at) ply same =
    none_retired (λ y. P y ⊎ (decoded r.word ≡ words.ToPly y)) rs c h.1 other (⊎_elim none (λ (e : decoded r.word ≡ words.ToPly c). into r.cell r.word (inl (refl, refl)) e)) (λ j v found. into j v (inr found)) k w y at ply same

-- an object into which no edge to a ply leads, and none of whose cells leads to a ply, has none in the union
pub none_leaves : (u : Union) (c : ℕ) → IsBacked u → c ≢ 0 → (IsWalked u c → ⊥) → ((k y : ℕ) → owner k ≡ c → decoded (slice_index u.cells k) ≡ words.ToPly y → ⊥) → (k w y : ℕ) → Goes u k w → decoded w ≡ words.ToPly y → owner k ≢ c
none_leaves u c ok other unwalked leaf k w y (going, inl is) ply same = leaf k y same (ap decoded is ∙ ply)
none_leaves u c ok other unwalked leaf k w y (going, inr at) ply same =
    none_retired (LeadsNow u.cells) u.retired c ok other
    (λ now. unwalked (inr (owner now.0, (now.0, slice_index u.cells now.0, refl, now.1, (goes_of (slice_index u.cells now.0) (words.ToPly c) now.1, inl refl)))))
    (λ j v found into. unwalked (inr (owner j, (j, v, refl, into, (goes_of v (words.ToPly c) into, inr found)))))
    k w y at ply same
