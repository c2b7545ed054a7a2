-- What the prefix table's calls of a plane do, as far as it looks.
use Rattle.std.specs.Prelude.{◌≡◌, ◌≢◌, ℕ, ◌+◌, ◌≤◌, ◌⊎◌, true}
use Rattle.fib_core.specs.declared.word.Word.{Word}
use Rattle.fib_plane_view.specs.View.{View, Goes, HasIn, IsLive, SameRecords, Stores, leads}

-- a store that closes no cycle
pub record IsSent (u v : View) (x s : ℕ) (w : Word) : Type 0 where
  pub cell : v.cell x s ≡ w
  pub others : (y t : ℕ) → (y ≡ x → t ≡ s → ⊥) → IsLive v y → v.cell y t ≡ u.cell y t
  pub edges : (y t c : ℕ) (z : Word) → leads z c → Goes v y t z → Goes u y t z ⊎ ((y ≡ x) × (t ≡ s) × (z ≡ w))
  pub kinds : (y : ℕ) → IsLive v y → v.is_ply y ≡ u.is_ply y
  pub held : (y : ℕ) → v.is_held y ≡ u.is_held y
  pub records : SameRecords u v
  pub free : u.free ≤ v.free
  pub stores : Stores u v 1
  pub spare : u.spare ≤ v.spare + 1
  pub spared : x ≢ 0 → (HasIn u x → ⊥) → u.spare ≤ v.spare

-- no ply is held that wasn't
abbrev pub HoldsNoMore : View → View → Type 0
HoldsNoMore u v = (x : ℕ) → v.is_ply x ≡ true → v.is_held x ≡ true → (u.is_ply x ≡ true) × (u.is_held x ≡ true)

-- what is held stays held, as what it is
pub record Frame (u v : View) : Type 0 where
  pub keeps : (o : ℕ) → u.is_held o ≡ true → (v.is_held o ≡ true) × (v.is_ply o ≡ u.is_ply o)
