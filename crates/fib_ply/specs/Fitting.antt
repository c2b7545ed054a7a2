-- What the cells of the table's plies hold, by the plies' nibble paths.
use Rattle.std.specs.Prelude.{◌≡◌, ℕ, ◌+◌, ◌*◌, ◌/◌, ◌<◌, ◌≤◌, ◌⊎◌, true}
use Rattle.fib_core.specs.declared.word.Word.{Word}
use Rattle.fib_core.specs.declared.word.Word.TheVariants.{Drop, ToPly, ToBalance, Plain, Receive, Glean, ToAdjacency}
use Rattle.fib_plane_view.specs.View.{View}
use Rattle.fib_ply.specs.Served.{Paths, IsChild, IsIn}

-- a cell of a ply in the table. K says where addresses may be sent, N which plies there are
abbrev pub IsFilled : (ℕ → ℕ → Type 0) → (ℕ → ℕ → Type 0) → Paths → ℕ → ℕ → Word → Type 0
IsFilled K N n x s (ToPly c) = (n.is_in c ≡ true) × IsChild n x s c
IsFilled K N n x s (ToBalance o) = (N (n.depth x + 1) (16 * n.value x + s) → ⊥) × ((a : ℕ) → IsIn n x s a → K a o)
IsFilled K N n x s Drop = ⊥
IsFilled K N n x s (Plain v) = ⊥
IsFilled K N n x s Receive = ⊥
IsFilled K N n x s (Glean v) = ⊥
IsFilled K N n x s (ToAdjacency v) = ⊥

-- the plies are those of N, and send addresses where K says
pub record Fits (K : ℕ → ℕ → Type 0) (N : ℕ → ℕ → Type 0) (n : Paths) (u : View) : Type 0 where
  pub root : (n.is_in 0 ≡ true) × (n.depth 0 ≡ 0) × (n.value 0 ≡ 0)
  pub held : (x : ℕ) → n.is_in x ≡ true → (u.is_ply x ≡ true) × ((x ≡ 0) ⊎ (u.is_held x ≡ true))
  pub apart : (x y : ℕ) → n.is_in x ≡ true → n.is_in y ≡ true → n.depth x ≡ n.depth y → n.value x ≡ n.value y → x ≡ y
  pub needed : (x : ℕ) → n.is_in x ≡ true → (n.depth x ≤ 7) × ((x ≡ 0) ⊎ N (n.depth x) (n.value x))
  pub upward : (d w : ℕ) → N (d + 2) w → N (d + 1) (w / 16)
  pub cells : (x s : ℕ) → n.is_in x ≡ true → s < 16 → IsFilled K N n x s (u.cell x s)
