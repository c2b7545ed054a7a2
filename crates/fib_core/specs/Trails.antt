-- The loads of a pass: where it stands by them, which packets they serve, and its result.
use Rattle.std.specs.Prelude.{◌≡◌, ℕ, ◌^◌, ◌≤◌, ◌<◌, Bool, true, false, List, [], ◌∷◌, slice_index, slice_get, Option, Some, None, Contains}
use Rattle.std.specs.List.{AllByRecursion}
use Rattle.fib_reach.specs.Walks.{AllDiffer}
use Rattle.fib_resolve.specs.Resolution.{ends}
use Rattle.fib_resolve.specs.declared.types.End.{End}
use Rattle.fib_resolve.specs.declared.types.End.TheVariants as answers
use Rattle.fib_resolve.specs.declared.types.Tables.{Tables}
use Rattle.fib_core_results.specs.declared.record.Record.{Record}
use Rattle.fib_core_results.specs.declared.record.Version.{Version}
use Rattle.fib_core_results.specs.Trails.{IsRecordOk}
use Rattle.fib_core.specs.declared.word.Word.{Word}
use Rattle.fib_core.specs.declared.word.Word.TheVariants as words
use Rattle.fib_core.specs.Union.{IsBucketWord}
use Rattle.fib_union.specs.Unions.{owner}
use Rattle.fib_core.specs.Words.{goes, target, decoded, tag_of, value_of}
use Rattle.fib_core.specs.Walk.{object_of, Place, ply, balance, adjacency, ended, root, asked, next, end_at, IsFlow}

-- a load: the cell and the number that was found. A list of loads has the newest first
abbrev pub Load : Type 0
Load = ℕ × ℕ

-- the objects that a pass has visited, newest first
abbrev pub arrive_if : Bool → ℕ → List ℕ → List ℕ
arrive_if true y xs = y ∷ xs
arrive_if false y xs = xs

abbrev pub visited : List Load → List ℕ
visited [] = 0 ∷ []
visited (l ∷ t) = arrive_if (goes l.1) (target l.1) (visited t)

-- the object where it stands
abbrev pub stands : List Load → ℕ
stands t = slice_index (visited t) 0

-- each load is of the object where the pass stood, and each edge is one of these
abbrev pub Walked : (ℕ → ℕ → Type 0) → List Load → Type 0
Walked Ok [] = Unit {0}
Walked Ok (l ∷ t) = (owner l.0 ≡ stands t) × (goes l.1 ≡ true → Ok l.0 l.1) × Walked Ok t

-- the edge by which it came there, 0 at the root
abbrev pub edge_if : Bool → ℕ → ℕ → ℕ
edge_if true w v = w
edge_if false w v = v

abbrev pub arrived : List Load → ℕ
arrived [] = 0
arrived (l ∷ t) = edge_if (goes l.1) l.1 (arrived t)

-- what was loaded of the object is what it holds
abbrev pub StillHolds : List ℕ → ℕ → List Load → Type 0
StillHolds cells o [] = Unit {0}
StillHolds cells o (l ∷ t) = (owner l.0 ≡ o → slice_index cells l.0 ≡ l.1) × StillHolds cells o t

-- what was read of the adjacency where the pass stands is what that adjacency holds
abbrev pub IsWhole : List ℕ → List Load → Type 0
IsWhole cells t = tag_of (decoded (arrived t)) ≡ 5 → StillHolds cells (stands t) t

-- the place to which these loads bring a walk
abbrev pub place : List Load → Place
place [] = root
place (l ∷ t) = next (place t) (decoded l.1)

abbrev pub IsGoing : Place → Type 0
IsGoing (ply o d) = Unit {0}
IsGoing (balance o n) = Unit {0}
IsGoing (adjacency o read) = Unit {0}
IsGoing (ended e) = ⊥

-- the loads are those of the walk of this address and hash, where each load answers the trail's word
abbrev pub Follows : ℕ → ℕ → List Load → Type 0
Follows a h [] = IsFlow a h
Follows a h (l ∷ t) = (l.0 ≡ asked a h (place t)) × IsGoing (place t) × Follows a h t

-- the version known as the first cell was loaded, the loads, and the version loaded after the last
pub record Trail : Type 0 where
  pub lo : Version
  pub loads : List Load
  pub hi : Version

abbrev pub result_of : Trail → ℕ → ℕ → Record
result_of t a h = record { addr = a; hash = h; lo = t.lo; hi = t.hi; end = end_at (place t.loads) }

-- the finished trail, where the loads have an end and a version was loaded after them
abbrev pub trail_at : Place → Trail → List Trail
trail_at (ply o d) t = []
trail_at (balance o n) t = []
trail_at (adjacency o read) t = []
trail_at (ended e) t = t ∷ []

abbrev pub finished : Version → List Load → Option Version → List Trail
finished lo loads None = []
finished lo loads (Some hi) = trail_at (place loads) (record { lo = lo; loads = loads; hi = hi })

-- no object was visited twice, and the result is right for each packet that the trail serves
pub record IsLawfulTrail (H : List Tables) (t : Trail) : Type 0 where
  pub apart : AllDiffer (visited t.loads)
  pub right : (a h : ℕ) → Follows a h t.loads → IsRecordOk H (result_of t a h)

abbrev pub AreLawful : List Tables → List Trail → Type 0
AreLawful H [] = Unit {0}
AreLawful H (t ∷ ts) = IsLawfulTrail H t × AreLawful H ts

-- an end of one of the versions from low to high
pub record IsEndOf (H : List Tables) (low high : ℕ) (e : End) : Type 0 where
  pub version : ℕ
  pub tables : Tables
  pub from : low ≤ version
  pub to : version ≤ high
  pub held : slice_get H version ≡ Some tables
  pub end : Contains (ends tables) e

-- numbers of interfaces and addresses are of 32 bits, and hardware addresses of 48
abbrev pub IsMac : Option ℕ → Type 0
IsMac None = Unit {0}
IsMac (Some mac) = mac < 2 ^ 48

abbrev pub IsProperEnd : End → Type 0
IsProperEnd answers.Drop = Unit {0}
IsProperEnd answers.Receive = Unit {0}
IsProperEnd (answers.Glean i) = i < 2 ^ 32
IsProperEnd (answers.Hop i a mac) = (i < 2 ^ 32) × (a < 2 ^ 32) × IsMac mac

abbrev pub IsProper : Place → Type 0
IsProper (ply o d) = d ≤ 7
IsProper (balance o n) = Unit {0}
IsProper (adjacency o []) = Unit {0}
IsProper (adjacency o (interface ∷ [])) = value_of interface < 2 ^ 32
IsProper (adjacency o (interface ∷ hop ∷ more)) = (value_of interface < 2 ^ 32) × (value_of hop < 2 ^ 32)
IsProper (ended e) = IsProperEnd e

-- the word has the form of the cells at that place: so a pass goes on exactly where it loads an edge
abbrev pub IsFormedAt : ℕ → Word → Type 0
IsFormedAt d (words.ToPly o) = d < 7
IsFormedAt d (words.ToBalance o) = Unit {0}
IsFormedAt d words.Drop = Unit {0}
IsFormedAt d words.Receive = ⊥
IsFormedAt d (words.Glean i) = ⊥
IsFormedAt d (words.ToAdjacency o) = ⊥
IsFormedAt d (words.Plain n) = ⊥

abbrev pub IsFormed : Place → Word → Type 0
IsFormed (ply o d) w = IsFormedAt d w
IsFormed (balance o n) w = IsBucketWord w
IsFormed (adjacency o read) w = tag_of w ≡ 6
IsFormed (ended e) w = Unit {0}

abbrev pub LastFormed : List Load → Type 0
LastFormed [] = Unit {0}
LastFormed (l ∷ t) = IsFormed (place t) (decoded l.1)

-- no object is visited twice, all are objects, and a walk that these loads serve stands where the pass stands
pub record IsSoundTrail (objects : ℕ) (t : List Load) : Type 0 where
  pub apart : AllDiffer (visited t)
  pub below : AllByRecursion (λ x. x < objects) (visited t)
  pub proper : (a h : ℕ) → Follows a h t → IsProper (place t) × LastFormed t
  pub stood : (a h : ℕ) → Follows a h t → IsGoing (place t) → object_of (place t) ≡ stands t
