-- The edges of recursion by the entries' numbers, and those of them that lie on cycles.
use Rattle.std.specs.Prelude.{◌↔◌, ◌+◌, ◌++◌, ◌&&◌, ◌==◌, ℕ, Bool, false, List, [], ◌∷◌, map, filter_map, slice_get, slice_index_or}
use Rattle.std.specs.Prelude.{Contains, IsTrue, ◌≡◌, ◌<◌, Option, Some, option_and_then}
use Rattle.std.specs.List.{list_any}
use Rattle.fib_addr.specs.Prefixes.{Prefix}
use Rattle.fib_resolve.specs.Pairs.{entries, chosen}
use Rattle.fib_resolve_pairs.specs.Numbers.{number_in, goal_of}
use Rattle.fib_loops.specs.Loops.{IsLooped}
use Rattle.fib_resolve.specs.declared.types.PathKind.{PathKind}
use Rattle.fib_resolve.specs.declared.types.Tables.{Tables}

-- the number of the entry to which a path leads
unfoldable pub goal_number : Tables → Prefix → PathKind → Option ℕ
goal_number S e kind = option_and_then (number_in S) (goal_of S e kind)

-- the numbers of the entries to which an entry has an edge
unfoldable pub next_numbers : Tables → Prefix → List ℕ
next_numbers S e = filter_map (λ p. goal_number S e p.kind) (chosen S e)

-- the edges as a graph over the entries' numbers
unfoldable pub graph_of : Tables → List (List ℕ)
graph_of S = map (next_numbers S) (entries S)

-- the edges of these rows, the first of which is that of the node n
abbrev pub edges_from : ℕ → List (List ℕ) → List (ℕ × ℕ)
edges_from n [] = []
edges_from n (row ∷ rows) = map (λ to. (n, to)) row ++ edges_from (n + 1) rows

-- all edges, in the order of entries and of their paths
unfoldable pub edges_of : Tables → List (ℕ × ℕ)
edges_of S = edges_from 0 (graph_of S)

abbrev pub same_edge : ℕ × ℕ → ℕ × ℕ → Bool
same_edge d e = (d.0 == e.0) && (d.1 == e.1)

abbrev pub has_edge : List (ℕ × ℕ) → ℕ × ℕ → Bool
has_edge found d = list_any (same_edge d) found

-- those of the first edges that are marked
abbrev pub AreMarked : List (ℕ × ℕ) → List Bool → ℕ → List (ℕ × ℕ) → Type 0
AreMarked edges marks count found =
    (d : ℕ × ℕ) → IsTrue (has_edge found d) ↔ ((k : ℕ) × (k < count) × (slice_get edges k ≡ Some d) × IsTrue (slice_index_or marks k false))

-- the numbers at which one of the edges starts are marked
abbrev pub AreStarts : List (ℕ × ℕ) → List Bool → Type 0
AreStarts found starts = (d : ℕ × ℕ) → IsTrue (has_edge found d) → IsTrue (slice_index_or starts d.0 false)

-- those of the edges that lie on cycles
abbrev pub AreLooped : List (ℕ × ℕ) → List (ℕ × ℕ) → Type 0
AreLooped edges found = (d : ℕ × ℕ) → IsTrue (has_edge found d) ↔ (Contains edges d × IsLooped edges d)
