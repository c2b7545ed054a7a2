-- A board that is filled: some objects are plies, at fixed depths, and the others balances that drop. Each edge leads from a ply to a deeper one,
-- or to a balance.
use Rattle.std.specs.Prelude.{◌≡◌, ℕ, suc, ◌^◌, ◌<◌, ◌≤◌, Bool, true, false, slice_index}
use Rattle.fib_union.specs.Unions.{owner}
use Rattle.fib_core.specs.declared.word.Word.{Word}
use Rattle.fib_core.specs.declared.word.Word.TheVariants as words
use Rattle.fib_core.specs.Words.{decoded}
use Rattle.fib_core.specs.Union.{Union, Goes, AreEdges}

-- how many objects there are, which are plies, and how deep each is
pub record Forest : Type 0 where
  pub objects : ℕ
  pub is_ply : ℕ → Bool
  pub depth : ℕ → ℕ

pub record IsForest (f : Forest) : Type 0 where
  pub few : f.objects < 2 ^ 32
  pub top : f.is_ply 0 ≡ true
  pub root : f.depth 0 ≡ 0
  pub low : (x : ℕ) → f.is_ply x ≡ true → f.depth x ≤ 7

-- what may stand in a cell of the object x
abbrev pub Fits : Forest → ℕ → Word → Type 0
Fits f x words.Drop = Unit {0}
Fits f x words.Receive = ⊥
Fits f x (words.Glean i) = ⊥
Fits f x (words.ToPly y) = (f.is_ply x ≡ true) × (f.is_ply y ≡ true) × (y < f.objects) × (f.depth y ≡ suc (f.depth x))
Fits f x (words.ToBalance y) = (f.is_ply x ≡ true) × (f.is_ply y ≡ false) × (y < f.objects)
Fits f x (words.ToAdjacency y) = ⊥
Fits f x (words.Plain n) = ⊥

pub record IsFilled (f : Forest) (u : Union) : Type 0 where
  pub found : (k : ℕ) → Fits f (owner k) (decoded (slice_index u.cells k))
  pub copies : (j v : ℕ) → Goes u j v → Fits f (owner j) (decoded v)
  pub edges : AreEdges u.retired
