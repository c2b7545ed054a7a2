-- What contracts see of a board of shared words, and what each of its calls makes of it. The values are the rule's own: its union of words, its
-- history, who is out.
use Rattle.std.specs.Prelude.{◌≡◌, ◌≢◌, ℕ, ◌+◌, ◌<◌, ◌≤◌, Bool, List, [], ◌∷◌, Option, slice_index}
use Rattle.fib_resolve.specs.declared.types.Tables.{Tables}
use Rattle.fib_core_results.specs.declared.record.Version.{Version}
use Rattle.fib_union.specs.Unions as edges
use Rattle.fib_union.specs.Unions.{owner}
use Rattle.fib_core.specs.declared.word.Word.{Word}
use Rattle.fib_core.specs.declared.word.Word.TheVariants as words
use Rattle.fib_core.specs.Words.{encoded, decoded}
use Rattle.fib_core.specs.Union.{Union, Goes, scanned, edge_in, edges_of}
use Rattle.fib_core.specs.Trails.{Load, Trail}
use Rattle.fib_core_lawful.specs.State.{Log, Control, stored_union, begun, settled, first_control}

-- a pass that runs as calls on the board itself: its packet, the version as it began, and its loads, the newest first
pub record Pass : Type 0 where
  pub addr : ℕ
  pub hash : ℕ
  pub lo : Version
  pub loads : List Load

pub record Board : Type 0 where
  -- which shared words these are: no two boards at work have one id, but those without seats of their own
  pub id : List ℕ
  pub objects : ℕ
  pub workers : ℕ
  -- the codes of the cells' words, and the retired copies
  pub union : Union
  pub log : Log
  -- which workers' numbers are out, and each number's pass word when it was last at rest
  pub out : List Bool
  pub rests : List ℕ
  -- the finished trails that came home, and the claims
  pub trails : List Trail
  pub gathered : List ℕ
  -- how many stores there were
  pub stored : ℕ
  -- each worker's running pass, on a board whose passes are its own calls. None of the calls that every board has touches them
  pub passes : List (Option Pass)

-- as the rule sees the control plane that holds it
abbrev pub as_control : Board → Control
as_control b = record {
  objects = b.objects;
  workers = b.workers;
  union = b.union;
  desk = record { out = b.out; rests = b.rests; picked = 0 };
  log = b.log;
  home = b.trails;
  gathered = b.gathered;
  stores = b.stored;
}

-- the board of a control plane with this view, of whose trails at home these are told, and on which these passes run
abbrev pub board_of : List ℕ → List Trail → List (Option Pass) → Control → Board
board_of id trails passes c = record {
  id = id;
  objects = c.objects;
  workers = c.workers;
  union = c.union;
  log = c.log;
  out = c.desk.out;
  rests = c.desk.rests;
  trails = trails;
  gathered = c.gathered;
  stored = c.stores;
  passes = passes;
}

-- the word in the cell k
abbrev pub word_in : Board → ℕ → Word
word_in b k = decoded (slice_index b.union.cells k)

-- where the word leads, if it is an edge
abbrev pub edge_of : Word → Option ℕ
edge_of w = edge_in (encoded w)

-- the union of the board's current and retired edges, between objects
abbrev pub union_of : Board → edges.Union
union_of b = edges_of b.union

-- a store of w into the cell k
abbrev pub board_stored : Board → ℕ → Word → Board
board_stored b k w = record b { union = stored_union (as_control b) k (encoded w); stored = b.stored + 1 }

-- a look at the pass word of worker n that found this
abbrev pub board_scanned : ℕ → ℕ → Board → Board
board_scanned n found b = record b { union = scanned b.union n found }

-- looks at the pass words of the workers from n on
abbrev pub board_scans : ℕ → List ℕ → Board → Board
board_scans n [] b = b
board_scans n (w ∷ ws) b = board_scans (n + 1) ws (board_scanned n w b)

-- a version begins with these tables, or the last is settled
abbrev pub board_begun : Board → Tables → Board
board_begun b next = record b { log = begun b.log next }

abbrev pub board_settled : Board → Board
board_settled b = record b { log = settled b.log }

-- the first control plane's, with nothing stored, nothing retired, nobody out and the fresh tables
pub record IsFresh (b : Board) : Type 0 where
  pub some : 0 < b.objects
  pub few : b.workers ≤ 8
  pub fresh : b ≡ board_of b.id [] b.passes (first_control b.objects b.workers)

-- no edge of the union to a ply, current or retired, leaves or enters the object
abbrev pub HasNoPly : Board → ℕ → Type 0
HasNoPly b o = (k w y : ℕ) → Goes b.union k w → decoded w ≡ words.ToPly y → (owner k ≢ o) × (y ≢ o)
