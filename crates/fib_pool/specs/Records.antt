-- Interned adjacency records: each record that is kept has an object of its own, whose number is the record's.
use Rattle.std.specs.Prelude.{◌≡◌, ◌<◌, ℕ, Bool, true, false, List, Option, Some, Contains}
use Rattle.fib_base_interned.specs.Interned.{Kept, kept_of, Takes}
use Rattle.fib_pool.specs.declared.object.Kind.TheVariants as kinds
use Rattle.fib_pool.specs.declared.object.Object.{Object}
use Rattle.fib_pool.specs.declared.object.AdjacencyRecord.{AdjacencyRecord}
use Rattle.fib_pool.specs.declared.object.TakenRecord.{TakenRecord}
use Rattle.fib_pool.specs.Objects.{at, TookObject}

abbrev pub adjacency : ℕ → ℕ → Option ℕ → AdjacencyRecord
adjacency interface next_hop mac = record { interface = interface; next_hop = next_hop; mac = mac }

-- a live adjacency
pub record IsAdjacency (objects : List (Option Object)) (o : ℕ) : Type 0 where
  pub count : ℕ
  pub taken : at objects o ≡ Some (record { kind = kinds.Adjacency; count = count })
  pub live : 0 < count

-- the object of each record that is kept is one
abbrev pub AreAdjacencies : List (Kept AdjacencyRecord) → List (Option Object) → Type 0
AreAdjacencies rows objects = (o : ℕ) (k : Kept AdjacencyRecord) → kept_of rows o ≡ Some k → IsAdjacency objects o

-- no equal record is kept
abbrev pub IsNew : List (Kept AdjacencyRecord) → AdjacencyRecord → Type 0
IsNew rows r = (k : Kept AdjacencyRecord) → Contains rows k → k.content ≡ r → ⊥

-- an equal record that is kept has fewer users
abbrev pub IsUsedLess : List (Kept AdjacencyRecord) → AdjacencyRecord → ℕ → Type 0
IsUsedLess rows r most = (k : Kept AdjacencyRecord) → Contains rows k → k.content ≡ r → k.users < most

-- the record is kept under that number
abbrev pub IsKeptAs : List (Kept AdjacencyRecord) → AdjacencyRecord → ℕ → Type 0
IsKeptAs rows r o = (k : Kept AdjacencyRecord) × (kept_of rows o ≡ Some k) × (k.content ≡ r)

-- a fresh object was free and is an adjacency; else the record was kept, and the objects stay
abbrev pub ObjectsFollow : Bool → List (Kept AdjacencyRecord) → AdjacencyRecord → List (Option Object) → List (Option Object) → ℕ → Type 0
ObjectsFollow true rows r before after o = IsNew rows r × TookObject before after o kinds.Adjacency
ObjectsFollow false rows r before after o = IsKeptAs rows r o × (after ≡ before)

-- the record has one user more, and the objects follow
pub record TakesRecord (old new : List (Kept AdjacencyRecord)) (before after : List (Option Object)) (r : AdjacencyRecord)
    (t : TakenRecord) : Type 0 where
  pub takes : Takes old new r t.object
  pub objects : ObjectsFollow t.fresh old r before after t.object
