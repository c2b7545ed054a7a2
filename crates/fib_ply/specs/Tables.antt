-- A prefix table, and the plies that stand for it.
use Rattle.std.specs.Prelude.{◌≡◌, ℕ, ◌+◌, ◌*◌, ◌-◌, ◌/◌, ◌^◌, ◌<◌, ◌≤◌, ◌⊎◌, ◌↔◌, Bool, List, Option, true, length}
use Rattle.fib_addr.specs.Prefixes.{Prefix}
use Rattle.fib_base_ordered.specs.Sets.{Order}
use Rattle.fib_core.specs.Walk.{balance, root}
use Rattle.fib_core_promise.specs.Matches.{IsLongestBlock, look_of}
use Rattle.fib_plane_view.specs.Promise.{Promise}
use Rattle.fib_plane_view.specs.View.{View}
use Rattle.fib_reach.specs.Walks.{AllDiffer}
use Rattle.fib_ply.specs.Hops.{IsPlyOf, hops}
use Rattle.fib_ply.specs.Prefixes.{Needs}
use Rattle.fib_ply.specs.Rows.{held}
use Rattle.fib_ply.specs.declared.rows.Row.{Row}
use Rattle.fib_ply.specs.Served.{Paths, Watch}
use Rattle.fib_ply.specs.Plies.{IsMine, IsOne, IsTable}

-- its prefixes with their objects, and how many plies it has, the root too
pub record Table : Type 0 where
  pub rows : Order Row
  pub plies : ℕ

abbrev pub object_in : Table → Prefix → Option ℕ
object_in t = held t.rows.members

-- what is promised, with the table's own prefixes for names
abbrev pub watch_of : Promise → Table → Watch
watch_of p t = record { promise = p; balance = held t.rows.members }

-- in a change: the plies stand for the table and keep what workers are promised, and no other ply is held
abbrev pub Stands : Promise → Table → View → Type 0
Stands p t u = (there : ℕ → ℕ → Bool) × (n : Paths) × IsTable (watch_of p t) (look_of (held t.rows.members)) there n u
    × (length n.all ≡ t.plies) × IsMine n u

-- as many plies came for a prefix as this: one for each of the last of its groups of four bits below the root, where no prefix of the table
-- needed one
pub record Came (look : Prefix → Option ℕ) (e : Prefix) (count : ℕ) : Type 0 where
  pub few : count ≤ (e.len - 1) / 4
  pub bare : (d : ℕ) → (e.len - 1) / 4 < d + count → d ≤ (e.len - 1) / 4 → Needs (look_of look) d (e.bits / 2 ^ (32 - 4 * d)) → ⊥

-- the walk of each address comes in at most eight hops to the object of the longest of the table's prefixes that contain it
abbrev pub LeadsAll : Table → View → Type 0
LeadsAll t u =
    (a h : ℕ) → a < 2 ^ 32 → (o : ℕ) × (n : ℕ) × (n ≤ 8) × (hops u.cell a h n root ≡ balance o 0)
    × IsLongestBlock (look_of (held t.rows.members)) 32 a o

-- a ply below the root that is in use
abbrev pub IsHeldPly : View → ℕ → Type 0
IsHeldPly u x = (u.is_ply x ≡ true) × (u.is_held x ≡ true)

-- there are exactly the plies that the prefixes need: the root, and one for each block of four bits or more in which a longer prefix lies
pub record HasItsPlies (t : Table) (u : View) : Type 0 where
  pub all : List ℕ
  pub apart : AllDiffer all
  pub each : (x : ℕ) → IsOne all x ↔ (x ≡ 0) ⊎ IsHeldPly u x
  pub number : length all ≡ t.plies
  pub needed : (x : ℕ) → IsHeldPly u x → (d : ℕ) × (w : ℕ) × Needs (look_of (held t.rows.members)) (d + 1) w × IsPlyOf u (d + 1) w x
  pub there : (d w : ℕ) → Needs (look_of (held t.rows.members)) (d + 1) w → (x : ℕ) × IsHeldPly u x × IsPlyOf u (d + 1) w x
