-- Which keys are known. No contract of a public call rests on this.
use Rattle.std.specs.Prelude.{◌≡◌, ℕ, Bool, false, List, [], ◌∷◌, Option, Some, None, cond}
use Rattle.std.specs.List.{AllByRecursion}
use Rattle.std.specs.HashMap.{HashMap, get}
use Rattle.fib_base_keyed.specs.declared.rows.Row.{Row}

abbrev pub key_of : {K : Type 0} → Row K → K
key_of r = r.key

-- no two have equal keys
abbrev pub AreApart : {K : Type 0} → (K → K → Bool) → List (Row K) → Type 0
AreApart eq [] = Unit {0}
AreApart eq (r ∷ rs) = AllByRecursion (λ q. eq r.key q.key ≡ false) rs × AreApart eq rs

-- these, and each key has a number
pub record AreKnown {K : Type 0} (eq : K → K → Bool) (rows : List (Row K)) (stamp_at : K → Option ℕ) : Type 0 where
  pub apart : AreApart eq rows
  pub known : AllByRecursion (λ r. stamp_at r.key ≡ None → ⊥) rows

-- a key that had no number has this one, and the others keep theirs
pub record Notes {K S : Type 0} (eq : K → K → Bool) (old new : HashMap K ℕ S) (key : K) (stamp : ℕ) : Type 0 where
  pub absent : get eq old key ≡ None
  pub noted : (q : K) → get eq new q ≡ cond (eq key q) (Some stamp) (get eq old q)
