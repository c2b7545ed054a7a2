-- Adjacency records that are taken, or given back, one user each.
use Rattle.std.specs.Prelude.{◌≡◌, ℕ, ◌+◌, ◌<◌, ◌≤◌, ◌⊎◌, Bool, List, [], ◌∷◌, ◌++◌, length, flat_map, option_to_list, Contains, Option, Some, None}
use Rattle.std.specs.Prelude.{Result, Ok, Err}
use Rattle.std.specs.List.{AllByRecursion, list_any}
use Rattle.fib_reach.specs.Walks.{AllDiffer}
use Rattle.fib_resolve.specs.declared.aims.Aim.{Aim}
use Rattle.fib_resolve.specs.declared.aims.Aim.TheVariants as aims
use Rattle.fib_resolve.specs.declared.aims.Marked.{Marked}
use Rattle.fib_resolve.specs.declared.types.End.{End}
use Rattle.fib_resolve.specs.declared.types.End.TheVariants as answers
use Rattle.fib_pool.specs.declared.object.AdjacencyRecord.{AdjacencyRecord}
use Rattle.fib_stack_ledger.specs.declared.ledger.Use.{Use}
use Rattle.fib_stack_ledger.specs.Ledgers.{record_used, times}
use Rattle.fib_core_promise.specs.Kept.{same_end}
use Rattle.fib_plane_view.specs.View.{View, HasIn, IsBalance, TookRecord}
use Rattle.fib_stack.specs.declared.records.Want.{Want}
use Rattle.fib_stack.specs.declared.records.Want.TheVariants as wants

-- the record of the end, where it has one
abbrev pub record_at : End → Option AdjacencyRecord
record_at answers.Drop = None
record_at answers.Receive = None
record_at (answers.Glean i) = None
record_at (answers.Hop i a m) = Some (record { interface = i; next_hop = a; mac = m })

abbrev pub record_for : Aim → Option AdjacencyRecord
record_for (aims.Ends end) = record_at end
record_for (aims.On t) = None

-- the records of all paths that end at one
abbrev pub records_for : List Marked → List AdjacencyRecord
records_for ms = flat_map (λ m. option_to_list (record_for m.aim)) ms

abbrev pub end_used : Use → End
end_used u = answers.Hop u.interface u.next_hop u.mac

-- the adjacency is among them
abbrev pub holds_in : List Use → End → Bool
holds_in us end = list_any (λ u. same_end (end_used u) end) us

-- the objects are those of the records
abbrev pub AreObjects : View → List Use → Type 0
AreObjects v us = AllByRecursion (λ u. v.record_of (record_used u) ≡ Some u.object) us

-- the object is one of theirs
abbrev pub IsObjectOf : List Use → ℕ → Type 0
IsObjectOf [] x = ⊥
IsObjectOf (u ∷ us) x = (u.object ≡ x) ⊎ IsObjectOf us x

-- the balances that are held are the same, with their cells
pub record SameBalances (u v : View) : Type 0 where
  pub stay : (x : ℕ) → IsBalance u x → IsBalance v x
  pub fresh : (x : ℕ) → IsBalance v x → IsBalance u x
  pub cells : (x k : ℕ) → IsBalance u x → v.cell x k ≡ u.cell x k

-- each got a user more for each time that it stands in the list; who had users kept its object
pub record TookAll (u v : View) (uses : List Use) : Type 0 where
  pub users : (m : AdjacencyRecord) → v.users m ≡ times m uses + u.users m
  pub kept : (m : AdjacencyRecord) → 0 < u.users m → v.record_of m ≡ u.record_of m
  pub objects : AreObjects v uses
  pub balances : SameBalances u v
  pub free : u.free ≤ v.free + length uses
  pub stored : u.stored ≤ v.stored
  pub spare : u.spare ≤ v.spare

-- each lost a user for each time that it stands in the list; who has users keeps its object
pub record GaveAll (u v : View) (uses : List Use) : Type 0 where
  pub users : (m : AdjacencyRecord) → times m uses + v.users m ≡ u.users m
  pub kept : (m : AdjacencyRecord) → 0 < v.users m → v.record_of m ≡ u.record_of m
  pub balances : SameBalances u v
  pub free : u.free ≤ v.free
  pub stored : u.stored ≤ v.stored
  pub spare : u.spare ≤ v.spare

-- as after records were taken and given back: cells may have been stored
pub record SamePlane (u v : View) : Type 0 where
  pub users : (m : AdjacencyRecord) → v.users m ≡ u.users m
  pub record_of : (m : AdjacencyRecord) → v.record_of m ≡ u.record_of m
  pub balances : SameBalances u v
  pub free : u.free ≤ v.free
  pub stored : u.stored ≤ v.stored
  pub spare : u.spare ≤ v.spare

-- the record of an aim is taken, where there is one; what can't be had leaves all as it is, and want of an object says that none is free
abbrev pub TookFor : View → View → Option AdjacencyRecord → List Use → List Use → Result Unit Want → Type 0
TookFor u v None old new (Ok x) = (v ≡ u) × (new ≡ old)
TookFor u v None old new (Err e) = ⊥
TookFor u v (Some m) old new (Ok x) = (o : ℕ) × TookRecord u v m o
    × (new ≡ old ++ (record { interface = m.interface; next_hop = m.next_hop; mac = m.mac; object = o }) ∷ [])
TookFor u v (Some m) old new (Err e) = (v ≡ u) × (new ≡ old) × (e ≡ wants.Object → u.free ≡ 0)

-- these records have no users, and stand in the list; each is named once
pub record AreNew (u : View) (rs ms : List AdjacencyRecord) : Type 0 where
  pub apart : AllDiffer ms
  pub new : AllByRecursion (λ m. (u.users m ≡ 0) × Contains rs m) ms

-- objects were taken for new records of the list alone, and as many others
abbrev pub TookNew : View → View → List AdjacencyRecord → ℕ → Type 0
TookNew u v rs others = (ms : List AdjacencyRecord) × AreNew u rs ms × (u.free ≤ v.free + length ms + others)

-- fewer objects are free than some new records of the list need, and as many others
abbrev pub LacksFor : View → List AdjacencyRecord → ℕ → Type 0
LacksFor u rs others = (ms : List AdjacencyRecord) × AreNew u rs ms × (u.free < length ms + others)

-- no edge leads to the record's object
abbrev pub IsAlone : View → AdjacencyRecord → Type 0
IsAlone u m = (x : ℕ) → u.record_of m ≡ Some x → HasIn u x → ⊥

-- an object was freed for each of these records that lost all its users
abbrev pub Freed : View → View → List Use → List AdjacencyRecord → Type 0
Freed u v us ms =
    (fs : List AdjacencyRecord) × (u.free + length fs ≤ v.free)
    × ((m : AdjacencyRecord) → Contains ms m → u.users m ≡ times m us → 0 < times m us → Contains fs m)
