-- What the prefix table and the stack of buckets leave to each other.
use Rattle.std.specs.Prelude.{◌≡◌, ℕ, ◌⊎◌, true, Option, Some}
use Rattle.fib_addr.specs.Prefixes.{Prefix}
use Rattle.fib_core.specs.declared.word.Word.TheVariants as words
use Rattle.fib_plane_view.specs.View.{View, Goes, IsLive, IsBalance, SameRecords}

-- what the table leaves to the stack: balances that are held, with their cells and those of the adjacencies to which they lead, and the records
pub record Beside (u v : View) : Type 0 where
  pub cells : (x k : ℕ) → IsBalance u x → v.cell x k ≡ u.cell x k
  pub adjacencies : (x k o t : ℕ) → IsBalance u x → u.cell x k ≡ words.ToAdjacency o → v.cell o t ≡ u.cell o t
  pub balances : (x : ℕ) → IsBalance u x → IsBalance v x
  pub fresh : (x : ℕ) → IsBalance v x → IsBalance u x
  pub records : SameRecords u v

-- the object is that of a prefix
abbrev pub IsAmong : (Prefix → Option ℕ) → ℕ → Type 0
IsAmong look o = (e : Prefix) × (look e ≡ Some o)

-- what the stack and a scan leave to the table: they store into no ply that is in use, add no edge to one, hold its plies and the prefixes'
-- objects, and no ply more
pub record IsQuiet (look : Prefix → Option ℕ) (u v : View) : Type 0 where
  pub plies : (x : ℕ) → v.is_ply x ≡ true → IsLive v x → (u.is_ply x ≡ true) × IsLive u x
  pub cells : (x t : ℕ) → v.is_ply x ≡ true → IsLive v x → v.cell x t ≡ u.cell x t
  pub edges : (x t c : ℕ) → Goes v x t (words.ToPly c) → Goes u x t (words.ToPly c)
  pub kinds : (x : ℕ) → (u.is_ply x ≡ true) ⊎ IsAmong look x → u.is_held x ≡ true
      → (v.is_held x ≡ true) × (v.is_ply x ≡ u.is_ply x)
  pub held : (x : ℕ) → v.is_ply x ≡ true → v.is_held x ≡ true → u.is_held x ≡ true
  pub root : v.is_ply 0 ≡ u.is_ply 0
