-- What workers are promised, in terms of the view, and what the plane's calls ask for it.
use Rattle.std.specs.Prelude.{◌≡◌, ◌≢◌, ℕ, ◌<◌, ◌⊎◌, Bool, true, List, Option, Some, Contains}
use Rattle.fib_addr.specs.Prefixes.{Prefix}
use Rattle.fib_resolve.specs.Resolution.{ends}
use Rattle.fib_resolve.specs.declared.types.End.{End}
use Rattle.fib_resolve.specs.declared.types.End.TheVariants as answers
use Rattle.fib_resolve.specs.declared.types.Tables.{Tables}
use Rattle.fib_core.specs.declared.word.Word.{Word}
use Rattle.fib_core.specs.declared.word.Word.TheVariants as words
use Rattle.fib_core_steady.specs.Aims.{IsLasting}
use Rattle.fib_core_steady.specs.Names.{Names}
use Rattle.fib_core_steady.specs.Promise as steady
use Rattle.fib_core_steady.specs.Promise.{SendsRight}
use Rattle.fib_core_steady.specs.Rooted.{KeepsLinked}
use Rattle.fib_core_board.specs.Boards.{Board}
use Rattle.fib_plane_view.specs.declared.put.Put.{Put}
use Rattle.fib_plane_view.specs.View.{View, Goes, IsBalance, IsPut, adjacency_end}

-- the tables of the versions from settled to applied, and whether all workers are at home; and all else that the board keeps beside its words. No
-- call of the plane changes it but those that begin and settle a version, and those on workers
pub record Promise : Type 0 where
  pub settled : ℕ
  pub applied : ℕ
  pub versions : List Tables
  pub alone : Bool
  pub rest : Board

-- from the first change on
abbrev pub IsBegun : Promise → Type 0
IsBegun p = 0 < p.applied

-- a time at which stores are allowed: a change is being made, or nothing has been changed yet and nobody is out
abbrev pub Allows : Promise → Type 0
Allows p = (p.settled < p.applied) ⊎ ((p.applied ≡ 0) × (p.alone ≡ true))

-- a ply on which a pass may stand
abbrev pub IsWalked : View → ℕ → Type 0
IsWalked u x = (x ≡ 0) ⊎ ((y : ℕ) × (t : ℕ) × Goes u y t (words.ToPly x))

-- each ply has one nibble path, by which alone edges lead to it
abbrev pub HasPaths : Names → View → Type 0
HasPaths n u = steady.HasPaths n (λ x s c. Goes u x s (words.ToPly c))

-- first point: an entry of all versions has a balance, which is held, and a bucket for which all want the same holds its word
abbrev pub KeepsBuckets : List Tables → (Prefix → Option ℕ) → View → Type 0
KeepsBuckets J balances u = steady.KeepsBuckets J balances u.cell (adjacency_end u) (IsBalance u)

-- second point: each ply on which a pass may stand sends addresses right
abbrev pub KeepsPlies : List Tables → Names → View → Type 0
KeepsPlies J n u = SendsRight J n (IsWalked u) u.cell

-- both points
pub record IsPromised (J : List Tables) (n : Names) (u : View) : Type 0 where
  pub buckets : KeepsBuckets J n.balance u
  pub plies : KeepsPlies J n u

-- before the first change every packet is dropped: what an edge leads to as a balance has Drop in all buckets
abbrev pub IsStill : View → Type 0
IsStill u = (x s o t : ℕ) → Goes u x s (words.ToBalance o) → t < 16 → u.cell o t ≡ words.Drop

-- the promise holds, for these names
pub record Serves (p : Promise) (n : Names) (u : View) : Type 0 where
  pub paths : HasPaths n u
  pub promised : IsBegun p → IsPromised p.versions n u
  pub still : p.applied ≡ 0 → IsStill u

-- an end that the word says, or leads to by its adjacency, is one of a version from settled to applied
abbrev pub IsEndOf : Promise → End → Type 0
IsEndOf p end = (S : Tables) × Contains p.versions S × Contains (ends S) end

abbrev pub EndsIn : Promise → View → Word → Type 0
EndsIn p u words.Receive = IsEndOf p answers.Receive
EndsIn p u (words.Glean i) = IsEndOf p (answers.Glean i)
EndsIn p u (words.ToAdjacency x) = IsEndOf p (adjacency_end u x)
EndsIn p u words.Drop = Unit {0}
EndsIn p u (words.ToPly c) = Unit {0}
EndsIn p u (words.ToBalance o) = Unit {0}
EndsIn p u (words.Plain n) = Unit {0}

-- a ply is linked below the root or a linked ply, and unlinked as a leaf
abbrev pub KeepsRooted : View → ℕ → ℕ → Word → Type 0
KeepsRooted u x s w =
    KeepsLinked x (λ c. w ≡ words.ToPly c) (λ c. u.cell x s ≡ words.ToPly c) (λ c. (y : ℕ) × (t : ℕ) × (u.cell y t ≡ words.ToPly c))
    (λ c. (t d : ℕ) → u.cell c t ≡ words.ToPly d → ⊥)

-- what a put of w into the cell s of x asks: the promise holds before it and after it, for the same names
pub record MayPut (p : Promise) (u : View) (x s : ℕ) (w : Word) : Type 0 where
  pub allowed : Allows p
  pub names : Names
  pub before : Serves p names u
  pub after : (v : View) (answer : Put) → IsPut u v x s w answer → Serves p names v
  pub rooted : KeepsRooted u x s w
  pub ends : EndsIn p u w

-- what a call that clears asks: for some names the promise holds
abbrev pub MayClear : Promise → View → Type 0
MayClear p u = Allows p × ((n : Names) × Serves p n u)

-- what letting an object go asks: it is no balance of an entry of all versions
abbrev pub MayLetGo : Promise → View → ℕ → Type 0
MayLetGo p u c =
    Allows p
    × ((n : Names) × Serves p n u
    × (IsBegun p → (e : Prefix) → IsLasting p.versions e → n.balance e ≡ Some c → ⊥))
