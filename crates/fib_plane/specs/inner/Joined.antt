-- A board, its union, its pool and the adjacency records, at the calls and in their midst.
use Rattle.std.specs.Prelude.{◌≡◌, ◌≢◌, ℕ, ◌+◌, ◌*◌, ◌<◌, ◌≤◌, List, [], Option, Some, None, Contains, length, slice_index}
use Rattle.fib_base_interned.specs.Interned.{Kept}
use Rattle.fib_reach.specs.Walks.{IsAcyclic}
use Rattle.fib_union.specs.Unions as edges
use Rattle.fib_union.specs.Unions.{owner, Edge, into, times}
use Rattle.fib_core.specs.declared.word.Word.TheVariants as words
use Rattle.fib_pool.specs.declared.object.Object.{Object}
use Rattle.fib_pool.specs.declared.object.AdjacencyRecord.{AdjacencyRecord}
use Rattle.fib_pool.specs.Objects.{at, count_of, IsLive, IsDying}
use Rattle.fib_core_board.specs.Boards.{Board, union_of, word_in}
use Rattle.fib_core_board.specs.May.{Allows, HoldsPromise}
use Rattle.fib_plane.specs.Planes.{IsHeld}
use Rattle.fib_plane.specs.Sound.{IsCounted, AreRecords}

pub record IsJoined (b : Board) (u : edges.Kept) (objects : List (Option Object)) : Type 0 where
  pub size : length objects ≡ b.objects
  pub long : length b.union.cells ≡ 16 * b.objects
  pub few : b.objects < 4294967296
  pub workers : u.workers ≡ b.workers
  pub same : u.union ≡ union_of b
  pub left : u.left ≡ []
  pub short : length u.union.retired < 4294967296
  pub counted : (o : ℕ) → IsCounted b objects o
  pub root : IsHeld b objects 0
  pub free : (k : ℕ) → at objects (owner k) ≡ None → word_in b k ≡ words.Drop

-- these are the objects that are counted no more and not given back yet, each once
pub record AreDying (objects : List (Option Object)) (dying : List ℕ) : Type 0 where
  pub there : (i : ℕ) → i < length dying → IsDying objects (slice_index dying i)
  pub apart : (i j : ℕ) → i < j → j < length dying → slice_index dying i ≢ slice_index dying j
  pub listed : (o : ℕ) → IsDying objects o → Contains dying o

-- between two calls; dying is the list of what waits for being cleared, with room for all objects
pub record IsAtRest (b : Board) (u : edges.Kept) (objects : List (Option Object)) (rows : List (Kept AdjacencyRecord)) (dying : List ℕ)
    (room : ℕ) : Type 0 where
  pub joined : IsJoined b u objects
  pub acyclic : IsAcyclic (Edge (union_of b))
  pub none : AreDying objects []
  pub calm : dying ≡ []
  pub roomy : b.objects ≤ room
  pub records : AreRecords b objects rows

-- in the middle of a scan: edges left that are counted still
pub record IsLoose (b : Board) (u : edges.Kept) (xs : List (Option Object)) : Type 0 where
  pub size : length xs ≡ b.objects
  pub long : length b.union.cells ≡ 16 * b.objects
  pub few : b.objects < 4294967296
  pub workers : u.workers ≡ b.workers
  pub same : u.union ≡ union_of b
  pub least : (o : ℕ) → into (union_of b) o + times o u.left ≤ count_of xs o
  pub most : (o : ℕ) → count_of xs o ≤ into (union_of b) o + times o u.left + 1
  pub root : into (union_of b) 0 + times 0 u.left < count_of xs 0
  pub free : (k : ℕ) → at xs (owner k) ≡ None → word_in b k ≡ words.Drop

-- what left was counted no more
pub record IsDropped (left : List ℕ) (xs ys : List (Option Object)) : Type 0 where
  pub size : length ys ≡ length xs
  pub counts : (o : ℕ) → count_of ys o + times o left ≡ count_of xs o
  pub none : (o : ℕ) → at ys o ≡ None → at xs o ≡ None
  pub kinds : (o : ℕ) (y : Object) → at ys o ≡ Some y → (x : Object) × (at xs o ≡ Some x) × (x.kind ≡ y.kind)

-- what is held, but for this object
abbrev pub HoldsBut : Board → List (Option Object) → ℕ → ℕ → Type 0
HoldsBut b objects x o = IsHeld b objects o × (o ≢ x)

-- the object was just taken: no edge leads there, and steady traffic doesn't rest on it
pub record IsIdle (b : Board) (u : edges.Kept) (objects : List (Option Object)) (x : ℕ) : Type 0 where
  pub joined : IsJoined b u objects
  pub acyclic : IsAcyclic (Edge (union_of b))
  pub live : IsLive objects x
  pub other : x ≢ 0
  pub alone : into (union_of b) x ≡ 0
  pub allowed : Allows b
  pub serves : HoldsPromise b (HoldsBut b objects x)
