-- Numbers that are counted from a base.
use Rattle.std.proofs.Common.{arith, ◌≡◌, ℕ, ◌+◌, ◌-◌, List, [], ◌∷◌, set, map, refl, ◌∙◌, ap}
use Rattle.std.proofs.lemmas.List.{map-set}

from_higher : (base gone : ℕ) (xs : List ℕ) → map (λ (m : ℕ). m - (base + gone)) xs ≡ map (λ (m : ℕ). m - gone) (map (λ (m : ℕ). m - base) xs)
from_higher base gone [] = refl
from_higher base gone (x ∷ xs) = let e : x - (base + gone) ≡ x - base - gone = omega arith in rw (e, from_higher base gone xs) refl

module _ (xs ys : List ℕ) (old base : ℕ) (same : map (λ (m : ℕ). m - base) ys ≡ map (λ (m : ℕ). m - old) xs) where
  pub lowered : (gone : ℕ) → map (λ (m : ℕ). m - (base + gone)) ys ≡ map (λ (m : ℕ). m - gone) (map (λ (m : ℕ). m - old) xs)
  lowered gone = from_higher base gone ys ∙ ap (λ (l : List ℕ). map (λ (m : ℕ). m - gone) l) same

  pub numbered : (k place : ℕ) → map (λ (m : ℕ). m - base) (set ys k (base + place)) ≡ set (map (λ (m : ℕ). m - old) xs) k place
  numbered k place =
      let e : base + place - base ≡ place = omega arith in
      map-set (λ (m : ℕ). m - base) ys k (base + place) ∙ (ap (λ (m : ℕ). set (map (λ (n : ℕ). n - base) ys) k m) e ∙ ap (λ (l : List ℕ). set l k place) same)
