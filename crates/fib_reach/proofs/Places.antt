-- Elements that differ, each of which stands in a list, are no more than the list is long.
use Rattle.std.proofs.Common.{arith, ◌≡◌, ◌≢◌, ℕ, zero, suc, ◌<◌, ◌≤◌, Bool, true, false, ◌||◌, eqb, ne_eqb, eqb-true, List, [], ◌∷◌, length, get_or, refl, sym, ◌∙◌, ap, subst}
use Rattle.std.specs.Prelude.{Contains}
use Rattle.std.specs.List.{AllByRecursion, IsDistinct, list_any}
use Rattle.std.proofs.lemmas.Bool.{false≢true}
use Rattle.std.proofs.lemmas.Map.Keys.{IsDistinct-cons}
use Rattle.std.proofs.lemmas.Map.Steps.{length-le_from_distinct_below}
use Rattle.fib_reach.specs.Walks.{AllDiffer}

pub any_default : {A : Type 0} (xs : List A) (k : ℕ) (d e : A) → k < length xs → get_or xs k d ≡ get_or xs k e
any_default [] k d e h = absurd (omega (arith, h))
any_default (x ∷ xs) zero d e h = refl
any_default (x ∷ xs) (suc k) d e h = any_default xs k d e (omega (arith, h))

below_at : (n q x : ℕ) (b c : Bool) → eqb q x ≡ b → x < n → (c ≡ true → q < n) → b || c ≡ true → q < n
below_at n q x true c e lt rest h = subst (λ i. i < n) (sym (eqb-true q x e)) lt
below_at n q x false c e lt rest h = rest h

module _ {A : Type 0} (ys : List A) where
  -- the place in ys of each
  abbrev places : (xs : List A) → AllByRecursion (λ x. Contains ys x) xs → List ℕ
  places [] h = []
  places (x ∷ xs) h = h.0.0 ∷ places xs h.1

  length-places : (xs : List A) (h : AllByRecursion (λ x. Contains ys x) xs) → length (places xs h) ≡ length xs
  length-places [] h = refl
  length-places (x ∷ xs) h = omega (arith, length-places xs h.1)

  apart : (x : A) (c : Contains ys x) (xs : List A) (h : AllByRecursion (λ x. Contains ys x) xs) → AllByRecursion (λ y. x ≢ y) xs → AllByRecursion (λ j. eqb c.0 j ≡ false) (places xs h)
  apart x c [] h d = tt
  apart x c (y ∷ xs) h d =
      (ne_eqb c.0 h.0.0 (λ same. d.0 (sym c.2 ∙ (ap (λ (k : ℕ). get_or ys k x) same ∙ (any_default ys h.0.0 x y h.0.1 ∙ h.0.2)))), apart x c xs h.1 d.1)

  distinct : (xs : List A) (h : AllByRecursion (λ x. Contains ys x) xs) → AllDiffer xs → IsDistinct eqb (places xs h)
  unfolding IsDistinct
  distinct [] h d = tt
  distinct (x ∷ xs) h d = IsDistinct-cons eqb h.0.0 (places xs h.1) (apart x h.0 xs h.1 d.0) (distinct xs h.1 d.1)

  below : (xs : List A) (h : AllByRecursion (λ x. Contains ys x) xs) (q : ℕ) → list_any (eqb q) (places xs h) ≡ true → q < length ys
  below [] h q e = absurd (false≢true e)
  below (x ∷ xs) h q e = below_at (length ys) q h.0.0 (eqb q h.0.0) (list_any (eqb q) (places xs h.1)) refl h.0.1 (λ t. below xs h.1 q t) e

pub length-le_from_differ : {A : Type 0} (xs ys : List A) → AllDiffer xs → AllByRecursion (λ x. Contains ys x) xs → length xs ≤ length ys
length-le_from_differ xs ys d h =
    omega (arith, length-places ys xs h, length-le_from_distinct_below (places ys xs h) (length ys) (distinct ys xs h d) (below ys xs h))
