-- Lists of views.
use Rattle.std.proofs.Common.{◌≡◌, ◌≢◌, ℕ, zero, suc, ◌⊎◌, inl, inr, ⊎_elim, List, [], ◌∷◌, ap, sym, arith}
use Rattle.std.specs.Prelude.{slice_set}
use mathlib.Core.Option.{some, some-injective, some-ne-none}
use lib.ListN.{get_elem?}

-- what stands at a place of a list after a store into it is what was stored, at its place, or what stood there
pub at_set : {A : Type 0} (l : List A) (i j : ℕ) (a b : A) → get_elem? (slice_set l i a) j ≡ some b → ((j ≡ i) × (a ≡ b)) ⊎ ((j ≢ i) × (get_elem? l j ≡ some b))
at_set [] i j a b e = absurd (some-ne-none b (sym e))
at_set (x ∷ xs) zero zero a b e = inl (zero_is, some-injective a b e)
  where
    zero_is : ◌≡◌ {A = ℕ} 0 0
    zero_is = omega arith
at_set (x ∷ xs) zero (suc j) a b e = inr ((λ same. omega arith), e)
at_set (x ∷ xs) (suc i) zero a b e = inr ((λ same. omega arith), e)
at_set (x ∷ xs) (suc i) (suc j) a b e = ⊎_elim
    (λ (h : (j ≡ i) × (a ≡ b)). inl (ap suc h.0, h.1))
    (λ (h : (j ≢ i) × (get_elem? xs j ≡ some b)). inr ((λ same. h.0 (omega arith)), h.1))
    (at_set xs i j a b e)

-- what was stored at a place stands there
pub set_there : {A : Type 0} (l : List A) (i : ℕ) (a b : A) → get_elem? l i ≡ some a → get_elem? (slice_set l i b) i ≡ some b
set_there [] i a b e = absurd (some-ne-none a (sym e))
set_there (v ∷ vs) zero a b e = ap some (λ i. b)
set_there (v ∷ vs) (suc i) a b e = set_there vs i a b e
