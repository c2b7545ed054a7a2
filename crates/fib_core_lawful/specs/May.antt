-- What the control plane's calls ask, in the words of a board's meanings: its objects, union, history and who is out.
use Rattle.std.specs.Prelude.{◌≡◌, ◌≢◌, ℕ, ◌+◌, ◌*◌, ◌%◌, ◌^◌, ◌<◌, ◌≤◌, ◌⊎◌, Bool, true, false, List, slice_index, slice_index_or, slice_set, slice_get, Some}
use Rattle.fib_reach.specs.Walks.{Walk, Leads}
use Rattle.fib_resolve.specs.Tables.{IsSound}
use Rattle.fib_resolve.specs.declared.types.End.TheVariants as answers
use Rattle.fib_resolve.specs.declared.types.Tables.{Tables}
use Rattle.fib_core_results.specs.Trails.{version_at}
use Rattle.fib_core.specs.declared.word.Word.TheVariants as words
use Rattle.fib_union.specs.Unions.{owner}
use Rattle.fib_core.specs.Words.{IsWord, decoded, tag_of, goes, target}
use Rattle.fib_core.specs.Walk.{word_at, IsFlow, walk, EndsIn}
use Rattle.fib_core.specs.Union.{Union, Goes, Edge, PlyEdge, IsPlyWord, HasForm}
use Rattle.fib_core.specs.StandsFor.{Stands}
use Rattle.fib_core.specs.Trails.{IsEndOf}
use Rattle.fib_core_lawful.specs.State.{Log}

-- the fresh table may be filled before the first change, while no worker is out and every walk still drops
pub record IsFilling (u : Union) (l : Log) (out : List Bool) (k w : ℕ) : Type 0 where
  pub fresh : l.version ≡ version_at 0
  pub home : (n : ℕ) → slice_index_or out n false ≡ false
  pub drops : (a h : ℕ) → IsFlow a h → walk (slice_set u.cells k w) a h ≡ answers.Drop

-- an edge from the cell k to the object target w
pub record MayLead (objects : ℕ) (u : Union) (k w : ℕ) : Type 0 where
  -- which is one, and not the root
  pub within : target w < objects
  pub away : target w ≢ 0
  -- it closes no cycle
  pub apart : Leads (Edge u) (target w) (owner k) → ⊥
  -- all edges into the object have its tag, and the object has that tag's form
  pub one_tag : (j v : ℕ) → Goes u j v → target v ≡ target w → tag_of (decoded v) ≡ tag_of (decoded w)
  pub formed : (s : ℕ) → s < 16 → HasForm (decoded w) s (word_at u.cells (target w) s)
  -- an edge to a ply comes from a ply, and plies lie at most seven deep
  pub plies : tag_of (decoded w) ≡ 3 → (j v : ℕ) → Goes u j v → target v ≡ owner k → tag_of (decoded v) ≡ 3
  pub shallow : tag_of (decoded w) ≡ 3 → (n m y : ℕ) → Walk (PlyEdge u) n 0 (owner k) → Walk (PlyEdge u) m (target w) y
      → n + 1 + m ≤ 7
  -- no edge to a ply leaves the object of any other edge
  pub others : tag_of (decoded w) ≢ 3 → (j v : ℕ) → Goes u j v → tag_of (decoded v) ≡ 3 → owner j ≢ target w

-- a store of w into the cell k, but for steady traffic and for how plies hang together
pub record MayStoreLawfully (objects : ℕ) (u : Union) (l : Log) (out : List Bool) (k w : ℕ) : Type 0 where
  -- a cell that there is, the code of a word, and another one than the cell holds
  pub inside : k < 16 * objects
  pub word : IsWord w
  pub other : slice_index u.cells k ≢ w
  -- the word has the form of the cells of its object: of the root, and of an object into which an edge leads
  pub root : owner k ≡ 0 → IsPlyWord (decoded w) ⊎ (decoded w ≡ words.Drop)
  pub form : (j v : ℕ) → Goes u j v → target v ≡ owner k → HasForm (decoded v) (k % 16) (decoded w)
  -- nothing is stored into an adjacency into which an edge leads
  pub whole : (j v o : ℕ) → Goes u j v → decoded v ≡ words.ToAdjacency o → owner k ≢ o
  pub edge : goes w ≡ true → MayLead objects u k w
  -- an end that the word says, or leads to by its adjacency, is one of a version from settled to applied
  pub end : EndsIn (IsEndOf l.history l.version.settled l.version.applied) u.cells (decoded w)
  -- a change is being made, or the fresh table is filled
  pub during : (l.version.settled < l.version.applied) ⊎ IsFilling u l out k w

-- a further version: its number fits
abbrev pub HasNext : Log → Type 0
HasNext l = l.version.applied + 1 < 2 ^ 32

-- the last version is settled: the cells stand for its tables, which are well formed, and nothing is retired
pub record MaySettle (u : Union) (l : Log) : Type 0 where
  pub tables : Tables
  pub held : slice_get l.history l.version.applied ≡ Some tables
  pub sound : IsSound tables
  pub stands : Stands u tables
