-- Rounds that only add, over a finite list, are stable after as many rounds as the list is long.
use Rattle.std.proofs.Common.{◌≡◌, ℕ, zero, suc, ◌<◌, ◌≤◌, Bool, true, false, List, [], ◌∷◌, length, ◌⊎◌, inl, inr, refl, arith}
use Rattle.std.specs.List.{AllByRecursion, count_by}
use Rattle.std.proofs.lemmas.Bool.{false≢true}
use Rattle.std.proofs.lemmas.List.Sums.{sum_by-cons, count_by-le-length}
use Rattle.fib_base_list.proofs.Booleans.{unit_of}

-- tests p and q agree at each element
abbrev pub Agree : {A : Type 0} → (A → Bool) → (A → Bool) → List A → Type 0
Agree p q xs = AllByRecursion (λ x. p x ≡ q x) xs

tests : (b c : Bool) → (b ≡ true → c ≡ true) → ((b ≡ c) × (unit_of b ≡ unit_of c)) ⊎ ((unit_of b ≡ 0) × (unit_of c ≡ 1))
tests true true h = inl (refl, refl)
tests true false h = absurd (false≢true (h refl))
tests false true h = inr (refl, refl)
tests false false h = inl (refl, refl)

-- where q passes all that p does, they agree or q passes more
pub agree_or_more : {A : Type 0} (p q : A → Bool) → ((x : A) → p x ≡ true → q x ≡ true) → (xs : List A) → (Agree p q xs × (count_by p xs ≡ count_by q xs)) ⊎ (count_by p xs < count_by q xs)
agree_or_more p q h [] = inl (tt, refl)
agree_or_more p q h (x ∷ xs) =
    let cp = sum_by-cons (λ x. unit_of (p x)) x xs in
    let cq = sum_by-cons (λ x. unit_of (q x)) x xs in
    elim (agree_or_more p q h xs) [
      | inl r ↦ elim (tests (p x) (q x) (h x)) [
        | inl s ↦ inl ((s.0, r.0), omega (arith, cp, cq, r.1, s.1))
        | inr s ↦ inr (omega (arith, cp, cq, r.1, s.0, s.1))
      ]
      | inr r ↦ elim (tests (p x) (q x) (h x)) [
        | inl s ↦ inr (omega (arith, cp, cq, r, s.1))
        | inr s ↦ inr (omega (arith, cp, cq, r, s.0, s.1))
      ]
    ]

module _ {A : Type 0} (F : ℕ → A → Bool) (xs : List A) (grows : (n : ℕ) (x : A) → F n x ≡ true → F (suc n) x ≡ true) (goes_on : (n : ℕ) → Agree (F n) (F (suc n)) xs → Agree (F (suc n)) (F (suc (suc n))) xs) where
  stable_or_more : (n : ℕ) → Agree (F n) (F (suc n)) xs ⊎ (n < count_by (F (suc n)) xs)
  stable_or_more zero =
      elim (agree_or_more (F 0) (F 1) (grows 0) xs) [ inl r ↦ inl r.0 | inr r ↦ inr (omega (arith, r)) ]
  stable_or_more (suc n) =
      elim (stable_or_more n) [
        | inl r ↦ inl (goes_on n r)
        | inr r ↦ elim (agree_or_more (F (suc n)) (F (suc (suc n))) (grows (suc n)) xs) [ inl s ↦ inl s.0 | inr s ↦ inr (omega (arith, r, s)) ]
      ]

  pub stable : (n : ℕ) → length xs ≤ n → Agree (F n) (F (suc n)) xs
  stable n h =
      elim (stable_or_more n) [ inl r ↦ r | inr r ↦ absurd (omega (arith, r, h, count_by-le-length (F (suc n)) xs)) ]
