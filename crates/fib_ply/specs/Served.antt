-- Plies by their nibble paths, and what their cells may hold while workers are promised something.
use Rattle.std.specs.Prelude.{◌≡◌, ℕ, ◌+◌, ◌*◌, ◌^◌, ◌<◌, ◌≤◌, ◌⊎◌, Bool, List, ◌∷◌, Option, Some, None, nat_lt, if◌then◌else◌}
use Rattle.fib_addr.specs.Prefixes.{Prefix}
use Rattle.fib_resolve.specs.declared.types.Tables.{Tables}
use Rattle.fib_core.specs.declared.word.Word.{Word}
use Rattle.fib_core.specs.declared.word.Word.TheVariants.{Drop, Receive, Glean, ToPly, ToBalance, ToAdjacency, Plain}
use Rattle.fib_core_steady.specs.Names.{Names, IsBelow}
use Rattle.fib_core_promise.specs.Matches.{promised_by}
use Rattle.fib_plane_view.specs.Promise.{Promise, Allows, IsBegun, KeepsBuckets, IsStill}
use Rattle.fib_plane_view.specs.View.{View, Goes}

-- the nibble path of each ply, in the table or left; which plies are in the table, and a list of them
pub record Paths : Type 0 where
  pub depth : ℕ → ℕ
  pub value : ℕ → ℕ
  pub is_in : ℕ → Bool
  pub all : List ℕ

abbrev pub IsChild : Paths → ℕ → ℕ → ℕ → Type 0
IsChild n x s c = (n.depth c ≡ n.depth x + 1) × (n.value c ≡ 16 * n.value x + s) × (n.depth c ≤ 7)

-- the address is one of the cell's
abbrev pub IsIn : Paths → ℕ → ℕ → ℕ → Type 0
IsIn n x s a = (a < 2 ^ 32) × IsBelow a (n.depth x + 1) (16 * n.value x + s)

-- the cell misleads no address of which W says where it is to go
abbrev pub IsRight : (ℕ → ℕ → Type 0) → Paths → ℕ → ℕ → Word → Type 0
IsRight W n x s (ToPly c) = Unit {0}
IsRight W n x s (ToBalance o) = (a p : ℕ) → IsIn n x s a → W a p → o ≡ p
IsRight W n x s Drop = ⊥
IsRight W n x s Receive = ⊥
IsRight W n x s (Glean i) = ⊥
IsRight W n x s (ToAdjacency o) = ⊥
IsRight W n x s (Plain v) = ⊥

-- a ply on which a pass may stand
abbrev pub IsWalked : View → ℕ → Type 0
IsWalked u x = (x ≡ 0) ⊎ ((y : ℕ) × (t : ℕ) × (t < 16) × Goes u y t (ToPly x))

pub record IsServed (W : ℕ → ℕ → Type 0) (n : Paths) (u : View) : Type 0 where
  pub root : (n.depth 0 ≡ 0) × (n.value 0 ≡ 0)
  pub paths : (x s c : ℕ) → Goes u x s (ToPly c) → (s < 16) × IsChild n x s c
  pub right : (x s : ℕ) → IsWalked u x → s < 16 → IsRight W n x s (u.cell x s)

-- what is promised, and each prefix's balance as the change began, which are the names for all of it
pub record Watch : Type 0 where
  pub promise : Promise
  pub balance : Prefix → Option ℕ

-- where an address is promised to go
abbrev pub wants_of : Watch → ℕ → Option ℕ
wants_of w a = if nat_lt 0 w.promise.applied then promised_by w.promise.versions w.balance a else None

abbrev pub Wanted : Watch → ℕ → ℕ → Type 0
Wanted w a p = wants_of w a ≡ Some p

-- what is kept beside the plies
pub record KeepsBeside (w : Watch) (u : View) : Type 0 where
  pub allowed : Allows w.promise
  pub newest : Tables
  pub older : List Tables
  pub versions : w.promise.versions ≡ newest ∷ older
  pub buckets : IsBegun w.promise → KeepsBuckets w.promise.versions w.balance u
  pub still : w.promise.applied ≡ 0 → IsStill u

-- the names of the change
abbrev pub names_of : Watch → Paths → Names
names_of w n = record { depth = n.depth; value = n.value; balance = w.balance }
