-- Copies that are backed: each has an edge into its object that is current, or was retired later. A is the type of copies.
use Rattle.std.specs.Prelude.{◌≡◌, ℕ, ◌⊎◌, List, [], ◌∷◌, ◌++◌, Option, Some, Contains}
use Rattle.fib_union.specs.Unions.{owner, edge_at}

-- an edge leads to x: a current one, or one of these copies
abbrev pub LeadsIn : {A : Type 0} → (A → ℕ) → List (Option ℕ) → List A → ℕ → Type 0
LeadsIn {A} to edges copies x = ((k : ℕ) × (edge_at edges k ≡ Some x)) ⊎ ((r : A) × Contains copies r × (to r ≡ x))

-- each of these copies of which Q holds is backed; newer are the copies that were retired later than all of them
abbrev pub AreBacked : {A : Type 0} → (A → ℕ) → (A → ℕ) → (A → Type 0) → List (Option ℕ) → List A → List A → Type 0
AreBacked cell to Q edges newer [] = Unit {0}
AreBacked cell to Q edges newer (r ∷ rs) = (Q r → LeadsIn to edges newer (owner (cell r))) × AreBacked cell to Q edges (newer ++ r ∷ []) rs
