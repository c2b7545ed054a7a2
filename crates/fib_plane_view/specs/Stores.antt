-- Which cells a call stores.
use Rattle.std.specs.Prelude.{◌≡◌, ◌≢◌, ◌⊎◌, ℕ, ◌+◌, List, [], ◌∷◌, length}
use Rattle.fib_plane_view.specs.View.{View, IsLive}

-- the cell s of the object x is in the list
abbrev pub Has : List (ℕ × ℕ) → ℕ → ℕ → Type 0
Has [] x s = ⊥
Has (c ∷ cs) x s = ((c.0 ≡ x) × (c.1 ≡ s)) ⊎ Has cs x s

-- each cell once
abbrev pub AreOnce : List (ℕ × ℕ) → Type 0
AreOnce [] = Unit {0}
AreOnce (c ∷ cs) = (Has cs c.0 c.1 → ⊥) × AreOnce cs

-- as many stores as cells whose words differ afterwards. P says which these may be
pub record StoresEach (P : ℕ → ℕ → Type 0) (u v : View) : Type 0 where
  pub cells : List (ℕ × ℕ)
  pub once : AreOnce cells
  pub each : (x s : ℕ) → Has cells x s → (u.cell x s ≢ v.cell x s) × P x s
  pub all : (x s : ℕ) → u.cell x s ≢ v.cell x s → Has cells x s
  pub stored : v.stored ≡ u.stored + length cells

-- an object that was in use, and isn't afterwards
abbrev pub IsFreed : View → View → ℕ → Type 0
IsFreed u v x = IsLive u x × (IsLive v x → ⊥)
