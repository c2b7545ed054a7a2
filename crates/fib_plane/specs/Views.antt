-- A plane as the prefix table and the stack of buckets see it: the view, and the promise of its board.
use Rattle.std.specs.Prelude.{◌≡◌, ◌∷◌, ℕ, ◌+◌, ◌*◌, ◌%◌, ◌==◌, ◌&&◌, ◌||◌, Bool, true, false, is_some, not, nat_lt, List, [], Option}
use Rattle.std.specs.Prelude.{Some, None, option_map, find, map, if◌then◌else◌}
use Rattle.std.specs.List.{list_any}
use Rattle.fib_base_interned.specs.Interned.{Kept, kept_of, users_in}
use Rattle.fib_union.specs.Unions as edges
use Rattle.fib_union.specs.Unions.{owner, into}
use Rattle.fib_core.specs.declared.word.Word.{Word}
use Rattle.fib_core.specs.declared.word.Word.TheVariants as words
use Rattle.fib_core.specs.Words.{decoded}
use Rattle.fib_core.specs.Union.{Retired as Copy}
use Rattle.fib_pool.specs.declared.object.Kind.{Kind}
use Rattle.fib_pool.specs.declared.object.Kind.TheVariants as kinds
use Rattle.fib_pool.specs.declared.object.Object.{Object}
use Rattle.fib_pool.specs.declared.object.AdjacencyRecord.{AdjacencyRecord}
use Rattle.fib_pool.specs.Objects.{at, count_of, free_in}
use Rattle.fib_core_rule.specs.Steady.{versions}
use Rattle.fib_core_board.specs.Boards.{Board, union_of, word_in}
use Rattle.fib_plane.specs.Planes.{IsHeld, Plane}
use Rattle.fib_resolve.specs.Tables.{fresh}
use Rattle.fib_plane_view.specs.View.{Goes, IsPlane, View, Retired, is_ply_kind, leads}
use Rattle.fib_plane_view.specs.Promise.{Promise}

-- objects have sixteen cells
abbrev pub cell_in : Board → ℕ → ℕ → Word
cell_in b x s = if nat_lt s 16 then word_in b (16 * x + s) else words.Drop

abbrev pub copy_seen : Copy → Retired
copy_seen r = record { from = owner r.cell; slot = r.cell % 16; word = decoded r.word }

abbrev pub is_ply_at : Option Object → Bool
is_ply_at None = false
is_ply_at (Some o) = is_ply_kind o.kind

abbrev pub is_adjacency_kind : Kind → Bool
is_adjacency_kind kinds.Ply = false
is_adjacency_kind kinds.Balance = false
is_adjacency_kind kinds.Adjacency = true

abbrev pub is_adjacency_at : Option Object → Bool
is_adjacency_at None = false
is_adjacency_at (Some o) = is_adjacency_kind o.kind

-- the root, or taken as one
abbrev pub is_ply_of : List (Option Object) → ℕ → Bool
is_ply_of objects x = (x == 0) || is_ply_at (at objects x)

-- counted once more than edges lead there; not the root, and no adjacency
abbrev pub is_held_in : Board → List (Option Object) → ℕ → Bool
is_held_in b objects x = not (x == 0) && (nat_lt (into (union_of b) x) (count_of objects x) && not (is_adjacency_at (at objects x)))

abbrev pub same_mac : Option ℕ → Option ℕ → Bool
same_mac None None = true
same_mac None (Some m) = false
same_mac (Some n) None = false
same_mac (Some n) (Some m) = n == m

abbrev pub same_record : AdjacencyRecord → AdjacencyRecord → Bool
same_record a b = (a.interface == b.interface) && ((a.next_hop == b.next_hop) && same_mac a.mac b.mac)

-- what is kept of a record
abbrev pub kept_as : List (Kept AdjacencyRecord) → AdjacencyRecord → Option (Kept AdjacencyRecord)
kept_as rows m = find (λ k. same_record k.content m) rows

abbrev pub record_in : List (Kept AdjacencyRecord) → AdjacencyRecord → Option ℕ
record_in rows m = option_map (λ k. k.id) (kept_as rows m)

abbrev pub users_of_record : List (Kept AdjacencyRecord) → AdjacencyRecord → ℕ
users_of_record rows m = users_in (kept_as rows m)

-- the plane of these parts
abbrev pub plane_of : Board → edges.Kept → List (Option Object) → List (Kept AdjacencyRecord) → Plane
plane_of b u objects rows = record { board = b; objects = objects; records = rows; spare = u.spare }

abbrev pub view_of : Plane → View
view_of p = record {
  cell = cell_in p.board;
  retired = map copy_seen p.board.union.retired;
  is_ply = is_ply_of p.objects;
  is_held = is_held_in p.board p.objects;
  record_of = record_in p.records;
  users = users_of_record p.records;
  free = free_in p.objects;
  stored = p.board.stored;
  spare = p.spare;
}

-- nobody is out
abbrev pub is_alone : Board → Bool
is_alone b = not (list_any (λ away. away) b.out)

-- the board but for its words, and for how often they were stored
abbrev pub but_words : Board → Board
but_words b = record b { union = record { cells = []; retired = [] }; stored = 0 }

abbrev pub promise_of : Board → Promise
promise_of b = record {
  settled = b.log.version.settled;
  applied = b.log.version.applied;
  versions = versions b.log;
  alone = is_alone b;
  rest = but_words b;
}

-- each adjacency that the control plane holds is a record's
abbrev pub AreRecorded : Plane → Type 0
AreRecorded p = (o : ℕ) → is_adjacency_at (at p.objects o) ≡ true → IsHeld p.board p.objects o → is_some (kept_of p.records o) ≡ true

-- a plane over a fresh board, to which nothing was done yet: nobody is out, the first version has the fresh tables, and there is no edge, nothing
-- held and no record
pub record IsBare (p : Promise) (u : View) : Type 0 where
  pub first : (p.applied ≡ 0) × (p.settled ≡ 0)
  pub alone : p.alone ≡ true
  pub versions : p.versions ≡ fresh ∷ []
  pub root : u.is_ply 0 ≡ true
  pub held : (x : ℕ) → u.is_held x ≡ false
  pub edges : (x s y : ℕ) (w : Word) → leads w y → Goes u x s w → ⊥
  pub users : (m : AdjacencyRecord) → u.users m ≡ 0

-- a plane of which what the prefix table and the stack rest on holds: its view is sound, and each adjacency that is held is a record's
pub record Whole : Type 0 where
  pub plane : Plane
  pub sound : IsPlane (view_of plane)
  pub recorded : AreRecorded plane
