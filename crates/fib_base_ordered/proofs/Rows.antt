-- Blocks of members: what stands before a place and after it.
use Rattle.std.proofs.Common.{arith, ◌≡◌, ℕ, zero, suc, ◌+◌, ◌-◌, ◌<◌, ◌≤◌, get_or, length, take, drop, List, [], ◌∷◌, ◌++◌, ◌⊎◌, inl, inr, Some, refl, sym, ◌∙◌, ap, subst, append_assoc, append-nil}
use Rattle.std.specs.Prelude.{flat_map, slice_get}
use Rattle.std.specs.List.{AllByRecursion}
use Rattle.std.proofs.lemmas.List.{take-append-drop, drop_all, take_all, take_more}
use Rattle.std.proofs.lemmas.Bool.{cases_lt}
use Rattle.std.proofs.lemmas.Option.{slice_get_past, slice_get-get_or}
use Rattle.fib_base_ordered.specs.Sets.{first_of, last_of}
use Rattle.fib_base_ordered.specs.inner.Blocks.{row, before, after}

module _ {X T : Type 0} (items : X → List T) where
  pub whole_at : (xs : List X) (i : ℕ) → i < length xs → flat_map items xs ≡ flat_map items (take i xs) ++ (row items (slice_get xs i) ++ flat_map items (drop (suc i) xs))
  whole_at [] i lt = absurd (omega arith)
  whole_at (x ∷ xs) zero lt = refl
  whole_at (x ∷ xs) (suc i) lt = ap (λ l. items x ++ l) (whole_at xs i (omega arith)) ∙ sym (append_assoc (items x) (flat_map items (take i xs)) (row items (slice_get xs i) ++ flat_map items (drop (suc i) xs)))

  assoc : (a t d c : List T) → (a ++ t) ++ (d ++ c) ≡ a ++ ((t ++ d) ++ c)
  assoc a t d c = simp append_assoc

  pub whole_cut : (xs : List X) (i j : ℕ) → i < length xs → flat_map items xs ≡ before items xs i j ++ after items xs i j
  whole_cut xs i j lt = whole_at xs i lt ∙ ap (λ l. flat_map items (take i xs) ++ (l ++ flat_map items (drop (suc i) xs))) (sym (take-append-drop j (row items (slice_get xs i)))) ∙ sym (assoc (flat_map items (take i xs)) (take j (row items (slice_get xs i))) (drop j (row items (slice_get xs i))) (flat_map items (drop (suc i) xs)))

  pub row_get : (xs : List X) (i : ℕ) (d : X) → i < length xs → row items (slice_get xs i) ≡ items (get_or xs i d)
  row_get [] i d lt = absurd (omega arith)
  row_get (x ∷ xs) zero d lt = refl
  row_get (x ∷ xs) (suc i) d lt = row_get xs i d (omega arith)

  pub drop_row : (xs : List X) (i : ℕ) → i < length xs → flat_map items (drop i xs) ≡ row items (slice_get xs i) ++ flat_map items (drop (suc i) xs)
  drop_row [] i lt = absurd (omega arith)
  drop_row (x ∷ xs) zero lt = refl
  drop_row (x ∷ xs) (suc i) lt = drop_row xs i (omega arith)

  pub take_row : (xs : List X) (i : ℕ) → i < length xs → flat_map items (take (suc i) xs) ≡ flat_map items (take i xs) ++ row items (slice_get xs i)
  take_row [] i lt = absurd (omega arith)
  take_row (x ∷ xs) zero lt = append-nil (items x)
  take_row (x ∷ xs) (suc i) lt = ap (λ l. items x ++ l) (take_row xs i (omega arith)) ∙ sym (append_assoc (items x) (flat_map items (take i xs)) (row items (slice_get xs i)))

  -- the same place at the next block
  next_before_suc : (xs : List X) (i j : ℕ) → suc i < length xs → j ≡ length (row items (slice_get xs i)) → before items xs (suc i) 0 ≡ before items xs i j
  next_before_suc xs i j lt e = append-nil (flat_map items (take (suc i) xs)) ∙ take_row xs i (omega arith) ∙ ap (λ l. flat_map items (take i xs) ++ l) (sym (take_all j (row items (slice_get xs i)) (omega arith)))

  next_after_suc : (xs : List X) (i j : ℕ) → suc i < length xs → j ≡ length (row items (slice_get xs i)) → after items xs (suc i) 0 ≡ after items xs i j
  next_after_suc xs i j lt e = sym (drop_row xs (suc i) lt) ∙ ap (λ l. l ++ flat_map items (drop (suc i) xs)) (sym (drop_all j (row items (slice_get xs i)) (omega arith)))

  pub last_after : (xs : List X) (i j : ℕ) → length xs ≤ suc i → length (row items (slice_get xs i)) ≤ j → after items xs i j ≡ []
  last_after xs i j le e = let f : drop j (row items (slice_get xs i)) ≡ [] = drop_all j (row items (slice_get xs i)) e in let g : drop (suc i) xs ≡ [] = drop_all (suc i) xs le in rw (f, g) refl

  one_more : (i : ℕ) → suc i ≡ i + 1
  one_more i = omega arith

  pub next_before : (xs : List X) (i j : ℕ) → i + 1 < length xs → j ≡ length (row items (slice_get xs i)) → before items xs (i + 1) 0 ≡ before items xs i j
  next_before xs i j lt e = subst (λ (n : ℕ). before items xs n 0 ≡ before items xs i j) (one_more i) (next_before_suc xs i j (omega arith) e)

  pub next_after : (xs : List X) (i j : ℕ) → i + 1 < length xs → j ≡ length (row items (slice_get xs i)) → after items xs (i + 1) 0 ≡ after items xs i j
  next_after xs i j lt e = subst (λ (n : ℕ). after items xs n 0 ≡ after items xs i j) (one_more i) (next_after_suc xs i j (omega arith) e)

  full_at : (xs : List X) (i : ℕ) → i < length xs → AllByRecursion (λ x. 0 < length (items x)) xs → 0 < length (row items (slice_get xs i))
  full_at [] i lt full = absurd (omega arith)
  full_at (x ∷ xs) zero lt full = full.0
  full_at (x ∷ xs) (suc i) lt full = full_at xs i (omega arith) full.1

  pub settled_next : (xs : List X) (i : ℕ) → i < length xs → AllByRecursion (λ x. 0 < length (items x)) xs → (0 < length (row items (slice_get xs i))) ⊎ (after items xs i 0 ≡ [])
  settled_next xs i lt full = inl (full_at xs i lt full)

  pub settled_same : (xs : List X) (i j : ℕ) → j ≤ length (row items (slice_get xs i)) → (j ≡ length (row items (slice_get xs i)) → i + 1 < length xs → ⊥) → (j < length (row items (slice_get xs i))) ⊎ (after items xs i j ≡ [])
  settled_same xs i j le not = elim (cases_lt j (length (row items (slice_get xs i)))) [
    | inl lt ↦ inl lt
    | inr ge ↦ elim (cases_lt (i + 1) (length xs)) [ inl less ↦ absurd (not (omega arith) less) | inr past ↦ inr (last_after xs i j (omega arith) ge) ]
  ]

  first_drop : (ys zs : List T) (j : ℕ) → j < length ys → first_of (drop j ys ++ zs) ≡ slice_get ys j
  first_drop [] zs j lt = absurd (omega arith)
  first_drop (y ∷ ys) zs zero lt = refl
  first_drop (y ∷ ys) zs (suc j) lt = first_drop ys zs j (omega arith)

  pub first_after : (xs : List X) (i j : ℕ) → (j < length (row items (slice_get xs i))) ⊎ (after items xs i j ≡ []) → first_of (after items xs i j) ≡ slice_get (row items (slice_get xs i)) j
  first_after xs i j s = elim (cases_lt j (length (row items (slice_get xs i)))) [
    | inl lt ↦ first_drop (row items (slice_get xs i)) (flat_map items (drop (suc i) xs)) j lt
    | inr ge ↦ elim s [ inl lt ↦ absurd (omega arith) | inr e ↦ ap first_of e ∙ sym (slice_get_past (row items (slice_get xs i)) j ge) ]
  ]

  last_end : (zs : List T) (y : T) → last_of (zs ++ y ∷ []) ≡ Some y
  last_end [] y = refl
  last_end (z ∷ []) y = refl
  last_end (z ∷ w ∷ zs) y = last_end (w ∷ zs) y

  pub last_before : (xs : List X) (i j : ℕ) (d : T) → 0 < j → j ≤ length (row items (slice_get xs i)) → last_of (before items xs i j) ≡ Some (get_or (row items (slice_get xs i)) (j - 1) d)
  last_before xs i j d some le =
      let r : List T = row items (slice_get xs i) in
      let e : j ≡ (j - 1) + 1 = omega arith in
      let f : take j r ≡ take (j - 1) r ++ get_or r (j - 1) d ∷ [] = ap (λ k. take k r) e ∙ take_more r (j - 1) d (omega arith) in
      ap (λ l. last_of (flat_map items (take i xs) ++ l)) f ∙ ap last_of (sym (append_assoc (flat_map items (take i xs)) (take (j - 1) r) (get_or r (j - 1) d ∷ []))) ∙ last_end (flat_map items (take i xs) ++ take (j - 1) r) (get_or r (j - 1) d)

  pub last_slice : (xs : List X) (i j : ℕ) → 0 < j → j ≤ length (row items (slice_get xs i)) → last_of (before items xs i j) ≡ slice_get (row items (slice_get xs i)) (j - 1)
  last_slice xs i j some le = by_row (row items (slice_get xs i)) (omega arith) (λ d. last_before xs i j d some le)
    where
      by_row : (r : List T) → j - 1 < length r → ((d : T) → last_of (before items xs i j) ≡ Some (get_or r (j - 1) d)) → last_of (before items xs i j) ≡ slice_get r (j - 1)
      by_row [] lt h = absurd (omega arith)
      by_row (y ∷ ys) lt h = h y ∙ sym (slice_get-get_or (y ∷ ys) (j - 1) y lt)

  pub empty_before : (xs : List X) (i j : ℕ) → i ≡ 0 → j ≡ 0 → before items xs i j ≡ []
  empty_before xs i j e f = rw (e, f) refl
