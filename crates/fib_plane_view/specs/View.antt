-- The plane as the prefix table and the stack of buckets see it, and what each of its calls does. Objects have sixteen cells each.
use Rattle.std.specs.Prelude.{◌≡◌, ◌≢◌, ℕ, zero, suc, ◌+◌, ◌*◌, ◌<◌, ◌≤◌, ◌⊎◌, ◌∷◌, Bool, true, false, List, Option, Some, None, Contains}
use Rattle.std.specs.Prelude.{length, Result, Ok, Err}
use Rattle.std.specs.declared.alloc.AllocError.{AllocError}
use Rattle.fib_reach.specs.Walks.{Leads}
use Rattle.fib_resolve.specs.declared.types.End.{End}
use Rattle.fib_resolve.specs.declared.types.End.TheVariants as answers
use Rattle.fib_core.specs.declared.word.Word.{Word}
use Rattle.fib_core.specs.declared.word.Word.TheVariants as words
use Rattle.fib_core.specs.Union.{IsPlyWord, IsBucketWord}
use Rattle.fib_core.specs.Walk.{hop_of}
use Rattle.fib_pool.specs.declared.object.Kind.{Kind}
use Rattle.fib_pool.specs.declared.object.Kind.TheVariants as kinds
use Rattle.fib_pool.specs.declared.object.AdjacencyRecord.{AdjacencyRecord}
use Rattle.fib_plane_view.specs.declared.put.Put.{Put}
use Rattle.fib_plane_view.specs.declared.put.Put.TheVariants as puts

-- the word is an edge to this object
abbrev pub leads : Word → ℕ → Type 0
leads words.Drop y = ⊥
leads words.Receive y = ⊥
leads (words.Glean i) y = ⊥
leads (words.ToPly x) y = x ≡ y
leads (words.ToBalance x) y = x ≡ y
leads (words.ToAdjacency x) y = x ≡ y
leads (words.Plain n) y = ⊥

-- a copy of an edge that was replaced in this cell, as long as a pass may be on it
pub record Retired : Type 0 where
  pub from : ℕ
  pub slot : ℕ
  pub word : Word

pub record View : Type 0 where
  pub cell : ℕ → ℕ → Word
  pub retired : List Retired
  -- the object is a ply, or the root
  pub is_ply : ℕ → Bool
  -- it was taken as a ply or a balance, and not let go since
  pub is_held : ℕ → Bool
  -- the object of each adjacency record that is kept, and how many users it has
  pub record_of : AdjacencyRecord → Option ℕ
  pub users : AdjacencyRecord → ℕ
  pub free : ℕ
  -- how many stores there were, and how many more may replace an edge
  pub stored : ℕ
  pub spare : ℕ

-- the end that an adjacency says
abbrev pub adjacency_end : View → ℕ → End
adjacency_end u x = hop_of (u.cell x 0) (u.cell x 1) (u.cell x 2)

-- the union of current and retired edges has this one
abbrev pub Goes : View → ℕ → ℕ → Word → Type 0
Goes u x s w = (u.cell x s ≡ w) ⊎ Contains u.retired (record { from = x; slot = s; word = w })

abbrev pub Edge : View → ℕ → ℕ → Type 0
Edge u x y = (s : ℕ) × (w : Word) × leads w y × Goes u x s w

-- some edge of the union leads to the object
abbrev pub HasIn : View → ℕ → Type 0
HasIn u y = (x : ℕ) × (s : ℕ) × (w : Word) × leads w y × Goes u x s w

abbrev pub IsRecord : View → ℕ → Type 0
IsRecord u x = (m : AdjacencyRecord) × (u.record_of m ≡ Some x)

-- object 0, or one that the control plane holds
abbrev pub IsStanding : View → ℕ → Type 0
IsStanding u x = (x ≡ 0) ⊎ (u.is_held x ≡ true)

-- the object is in use: object 0, held, a record's, or one to which an edge leads
abbrev pub IsLive : View → ℕ → Type 0
IsLive u x = (x ≡ 0) ⊎ ((u.is_held x ≡ true) ⊎ (IsRecord u x ⊎ HasIn u x))

-- a balance that the control plane holds
abbrev pub IsBalance : View → ℕ → Type 0
IsBalance u x = (u.is_held x ≡ true) × (u.is_ply x ≡ false)

-- edges have the kind of what they join
pub record Kinds (u : View) : Type 0 where
  pub ply : (x s c : ℕ) → Goes u x s (words.ToPly c) → (u.is_ply x ≡ true) × (u.is_ply c ≡ true)
  pub balance : (x s o : ℕ) → Goes u x s (words.ToBalance o) → (u.is_ply o ≡ false) × (IsRecord u o → ⊥)
  pub adjacency : (x s o : ℕ) → Goes u x s (words.ToAdjacency o) → (u.is_ply o ≡ false) × (u.is_held o ≡ false)

-- what holds of every plane
pub record IsPlane (u : View) : Type 0 where
  pub kinds : Kinds u
  pub slots : (x s y : ℕ) (w : Word) → leads w y → Goes u x s w → s < 16
  pub root : (u.is_ply 0 ≡ true) × (u.is_held 0 ≡ false)
  -- a balance that is held has the words of buckets
  pub buckets : (x s : ℕ) → IsBalance u x → s < 16 → IsBucketWord (u.cell x s)
  -- a record is kept exactly while it has users, under an object of its own that nothing else holds and whose cells are no edges
  pub recorded : (m : AdjacencyRecord) → 0 < u.users m → (x : ℕ) × (u.record_of m ≡ Some x)
  pub forgotten : (m : AdjacencyRecord) → u.users m ≡ 0 → u.record_of m ≡ None
  pub apart : (m n : AdjacencyRecord) (x : ℕ) → u.record_of m ≡ Some x → u.record_of n ≡ Some x → m ≡ n
  pub records : (m : AdjacencyRecord) (x : ℕ) → u.record_of m ≡ Some x → (u.is_held x ≡ false) × (u.is_ply x ≡ false)
  pub plain : (m : AdjacencyRecord) (x s y : ℕ) → u.record_of m ≡ Some x → leads (u.cell x s) y → ⊥
  -- and which say what the record does
  pub written : (m : AdjacencyRecord) (x : ℕ) → u.record_of m ≡ Some x → adjacency_end u x ≡ answers.Hop m.interface m.next_hop m.mac
  -- a plane has 131,072 objects at most
  pub few : u.free ≤ 131072
  pub numbers : (x : ℕ) → u.is_held x ≡ true → x < 131072

-- the word has the form of the object's cells, and leads to an object of its kind. An edge to a ply leads to a filled one
abbrev pub HasKind : View → ℕ → Word → Type 0
HasKind u x (words.ToPly c) =
    (u.is_ply x ≡ true) × (u.is_ply c ≡ true) × ((t : ℕ) → t < 16 → IsPlyWord (u.cell c t))
HasKind u x (words.ToBalance o) = IsBalance u o
HasKind u x (words.ToAdjacency o) = (u.is_ply x ≡ false) × IsRecord u o
HasKind u x words.Drop = u.is_ply x ≡ false
HasKind u x words.Receive = u.is_ply x ≡ false
HasKind u x (words.Glean i) = u.is_ply x ≡ false
HasKind u x (words.Plain n) = ⊥

-- the edge would close a cycle in the union
abbrev pub Closes : View → ℕ → Word → Type 0
Closes u x w = (y : ℕ) × leads w y × Leads (Edge u) y x

-- what a put answers, and the cell afterwards
abbrev pub Answered : View → ℕ → ℕ → Word → Word → Put → Type 0
Answered u x s w now puts.Same = (u.cell x s ≡ w) × (now ≡ w)
Answered u x s w now puts.Stored = (u.cell x s ≢ w) × (now ≡ w) × (Closes u x w → ⊥)
Answered u x s w now puts.Dropped = (u.cell x s ≢ w) × (now ≡ words.Drop) × Closes u x w

-- at most so many cells were stored beside those that were cleared, sixteen at most for each object that became free
pub record Stores (u v : View) (most : ℕ) : Type 0 where
  pub more : u.stored ≤ v.stored
  pub few : v.stored + 16 * u.free ≤ most + u.stored + 16 * v.free

-- the adjacency records are the same
pub record SameRecords (u v : View) : Type 0 where
  pub record_of : v.record_of ≡ u.record_of
  pub users : v.users ≡ u.users

-- no edge comes, and what is live keeps its cells and its kind
pub record IsSwept (u v : View) : Type 0 where
  pub cells : (y t : ℕ) → IsLive v y → v.cell y t ≡ u.cell y t
  pub edges : (y t d : ℕ) (z : Word) → leads z d → Goes v y t z → Goes u y t z
  pub kinds : (y : ℕ) → IsLive v y → v.is_ply y ≡ u.is_ply y
  pub free : u.free ≤ v.free
  pub spare : u.spare ≤ v.spare

-- the edge of the cell s of x, as a copy
abbrev pub copy_at : View → ℕ → ℕ → Retired
copy_at u x s = record { from = x; slot = s; word = u.cell x s }

-- a put of w into the cell s of x
pub record IsPut (u v : View) (x s : ℕ) (w : Word) (answer : Put) : Type 0 where
  pub answered : Answered u x s w (v.cell x s) answer
  pub others : (y t : ℕ) → (y ≡ x → t ≡ s → ⊥) → IsLive v y → v.cell y t ≡ u.cell y t
  pub edges : (y t c : ℕ) (z : Word) → leads z c → Goes v y t z → Goes u y t z ⊎ ((y ≡ x) × (t ≡ s) × (z ≡ w))
  -- an edge is retired exactly where it is replaced and a pass may come to its object; each other copy stays
  pub retired : ((y : ℕ) → leads (u.cell x s) y → ⊥) → v.retired ≡ u.retired
  pub kept : answer ≡ puts.Same → v.retired ≡ u.retired
  pub left : x ≢ 0 → (HasIn u x → ⊥) → v.retired ≡ u.retired
  pub copied : (y : ℕ) → leads (u.cell x s) y → answer ≢ puts.Same → (x ≡ 0) ⊎ HasIn u x → v.retired ≡ copy_at u x s ∷ u.retired
  pub kinds : (y : ℕ) → IsLive v y → v.is_ply y ≡ u.is_ply y
  pub held : (y : ℕ) → v.is_held y ≡ u.is_held y
  pub records : SameRecords u v
  pub free : u.free ≤ v.free
  pub stores : Stores u v 1
  pub spare : u.spare ≤ v.spare + 1
  -- where no pass can come nothing is retired
  pub spared : x ≢ 0 → (HasIn u x → ⊥) → u.spare ≤ v.spare

-- w was put into so many of the first cells of x, one after another, and each put stored it; after each the view is a plane's
abbrev pub Fills : View → ℕ → Word → ℕ → View → Type 0
Fills u x w zero v = v ≡ u
Fills u x w (suc s) v = (m : View) × Fills u x w s m × IsPut m v x s w puts.Stored × IsPlane v

-- an object of the control plane's whose cells are empty, and to which no edge leads
pub record IsEmpty (u : View) (x : ℕ) : Type 0 where
  pub held : u.is_held x ≡ true
  pub alone : HasIn u x → ⊥
  pub cells : (s : ℕ) → s < 16 → u.cell x s ≡ words.Drop

-- the word leads to objects in use, other than x
abbrev pub LeadsElsewhere : View → ℕ → Word → Type 0
LeadsElsewhere u x w = (y : ℕ) → leads w y → IsLive u y × (y ≢ x)

abbrev pub is_ply_kind : Kind → Bool
is_ply_kind kinds.Ply = true
is_ply_kind kinds.Balance = false
is_ply_kind kinds.Adjacency = false

-- c was free. A retired edge to a balance or an adjacency may still leave it, but none to a ply
pub record IsTaken (u v : View) (kind : Kind) (c : ℕ) : Type 0 where
  pub other : c ≢ 0
  pub fresh : u.is_held c ≡ false
  pub unrecorded : IsRecord u c → ⊥
  pub above : (x s : ℕ) (w : Word) → leads w c → Goes u x s w → ⊥
  pub below : (s y : ℕ) → Goes u c s (words.ToPly y) → ⊥
  pub cells : (y t : ℕ) → v.cell y t ≡ u.cell y t
  pub dropped : (t : ℕ) → t < 16 → v.cell c t ≡ words.Drop
  pub retired : v.retired ≡ u.retired
  pub held : (v.is_held c ≡ true) × (v.is_ply c ≡ is_ply_kind kind)
  pub others : (y : ℕ) → y ≢ c → (v.is_held y ≡ u.is_held y) × (v.is_ply y ≡ u.is_ply y)
  pub records : SameRecords u v
  pub free : u.free ≡ v.free + 1
  pub stored : v.stored ≡ u.stored
  pub spare : v.spare ≡ u.spare

-- c is held no more
pub record IsLetGo (u v : View) (c : ℕ) : Type 0 where
  pub swept : IsSwept u v
  pub gone : v.is_held c ≡ false
  pub held : (y : ℕ) → y ≢ c → v.is_held y ≡ u.is_held y
  pub records : SameRecords u v
  pub stores : Stores u v 0

-- a record gets a user more; only a new one takes an object
pub record TookRecord (u v : View) (m : AdjacencyRecord) (x : ℕ) : Type 0 where
  pub here : v.record_of m ≡ Some x
  pub kept : (n : AdjacencyRecord) → 0 < u.users n → v.record_of n ≡ u.record_of n
  pub mine : v.users m ≡ u.users m + 1
  pub others : (n : AdjacencyRecord) → n ≢ m → v.users n ≡ u.users n
  pub cells : (y t : ℕ) → IsLive u y → v.cell y t ≡ u.cell y t
  pub edges : (y t d : ℕ) (z : Word) → leads z d → Goes v y t z → Goes u y t z
  pub kinds : (y : ℕ) → IsLive u y → v.is_ply y ≡ u.is_ply y
  pub held : (y : ℕ) → v.is_held y ≡ u.is_held y
  pub free : u.free ≤ v.free + 1
  pub same : 0 < u.users m → v.free ≡ u.free
  -- no edge leads to the object of a new one
  pub alone : u.users m ≡ 0 → HasIn v x → ⊥
  pub stores : Stores u v 19
  pub spare : u.spare ≤ v.spare

-- an equal record that is kept needs no object
abbrev pub TookOne : View → View → AdjacencyRecord → Result (Option ℕ) AllocError → Type 0
TookOne u v m (Ok (Some x)) = TookRecord u v m x
TookOne u v m (Ok None) = (v ≡ u) × (u.users m ≡ 0) × (u.free ≡ 0)
TookOne u v m (Err e) = v ≡ u

-- a record loses a user, and is forgotten with its last one
pub record GaveRecord (u v : View) (m : AdjacencyRecord) : Type 0 where
  pub mine : v.users m + 1 ≡ u.users m
  pub others : (n : AdjacencyRecord) → n ≢ m → v.users n ≡ u.users n
  pub kept : (n : AdjacencyRecord) → 0 < v.users n → v.record_of n ≡ u.record_of n
  pub swept : IsSwept u v
  pub held : (y : ℕ) → v.is_held y ≡ u.is_held y
  -- with the last user its object is free, where no edge leads to it
  pub freed : (x : ℕ) → u.record_of m ≡ Some x → u.users m ≡ 1 → (HasIn u x → ⊥) → u.free + 1 ≤ v.free
  pub stores : Stores u v 0

-- edges that every worker has passed leave, with what they alone kept in use
pub record IsScanned (u v : View) (left : ℕ) : Type 0 where
  pub long : length v.retired ≡ left
  pub fewer : (e : Retired) → Contains v.retired e → Contains u.retired e
  pub swept : IsSwept u v
  pub held : (y : ℕ) → v.is_held y ≡ u.is_held y
  pub records : SameRecords u v
  pub stores : Stores u v 0

-- room was made, and nothing else
pub record HasRoom (u v : View) : Type 0 where
  pub more : u.spare ≤ v.spare
  pub same : v ≡ record u { spare = v.spare }
