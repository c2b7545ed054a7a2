-- How the fields of a store fit together: each number has the place where it stands. No contract of a public call rests on this.
use Rattle.std.specs.Prelude.{◌≡◌, ◌<◌, ◌≤◌, ℕ, List, Option, Some, None, slice_get}
use Rattle.fib_base_interned.specs.Interned.{Kept, kept_of}

abbrev pub kept_with : {T : Type 0} → T → ℕ → ℕ → Kept T
kept_with content id users = record { id = id; content = content; users = users }

abbrev pub kept_at : {T : Type 0} → List (Kept T) → Option ℕ → Option (Kept T)
kept_at rows None = None
kept_at rows (Some place) = slice_get rows place

-- a number has the place where it stands, and its content has a user
pub record IsBook {T : Type 0} (rows : List (Kept T)) (place_of : ℕ → Option ℕ) : Type 0 where
  pub placed : (id place : ℕ) → place_of id ≡ Some place → (k : Kept T) × (slice_get rows place ≡ Some k) × (k.id ≡ id)
  pub back : (place : ℕ) (k : Kept T) → slice_get rows place ≡ Some k → place_of k.id ≡ Some place
  pub used : (place : ℕ) (k : Kept T) → slice_get rows place ≡ Some k → 0 < k.users

-- no number from this one on is given
abbrev pub AreBelow : {T : Type 0} → ℕ → List (Kept T) → Type 0
AreBelow next rows = (id : ℕ) → next ≤ id → kept_of rows id ≡ None
