-- The control plane's names: the nibble path of each ply, and the balance of each entry.
use Rattle.std.specs.Prelude.{◌≡◌, ℕ, ◌+◌, ◌*◌, ◌-◌, ◌/◌, ◌^◌, ◌<◌, ◌≤◌, ◌⊎◌, List, Option, slice_index}
use Rattle.fib_addr.specs.Prefixes.{Prefix}
use Rattle.fib_core.specs.declared.word.Word.TheVariants as words
use Rattle.fib_core.specs.Words.{decoded}
use Rattle.fib_core.specs.Union.{Union, PlyEdge}

-- a ply's path as how many nibbles it has and the number that they make
pub record Names : Type 0 where
  pub depth : ℕ → ℕ
  pub value : ℕ → ℕ
  pub balance : Prefix → Option ℕ

-- the address begins with these nibbles
abbrev pub IsBelow : ℕ → ℕ → ℕ → Type 0
IsBelow a d w = a / 2 ^ (32 - 4 * d) ≡ w

-- the ply's path is that of the other and one nibble more
abbrev pub IsChild : Names → ℕ → ℕ → ℕ → Type 0
IsChild n x s c = (n.depth c ≡ n.depth x + 1) × (n.value c ≡ 16 * n.value x + s) × (n.depth c ≤ 7)

-- the address is one of the cell's
abbrev pub IsIn : Names → ℕ → ℕ → ℕ → Type 0
IsIn n x s a = (a < 2 ^ 32) × IsBelow a (n.depth x + 1) (16 * n.value x + s)

-- a ply on which a pass may stand
abbrev pub IsWalked : Union → ℕ → Type 0
IsWalked u x = (x ≡ 0) ⊎ ((y : ℕ) × PlyEdge u y x)

-- a cell leads to this ply
abbrev pub LeadsNow : List ℕ → ℕ → Type 0
LeadsNow cells y = (k : ℕ) × (decoded (slice_index cells k) ≡ words.ToPly y)
