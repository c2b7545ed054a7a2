-- The edges of recursion by places in an order of entries. No contract of a public call rests on this.
use Rattle.std.specs.Prelude.{◌≡◌, ◌↔◌, ◌⊎◌, ◌<◌, ℕ, List, Contains, Some, None, length, filter_map, ◌==◌, if◌then◌else◌, slice_get}
use Rattle.fib_reach.specs.Walks.{AllDiffer}
use Rattle.fib_reach.specs.Graphs.{next_of}
use Rattle.fib_addr.specs.Prefixes.{Prefix}
use Rattle.fib_resolve.specs.Loops.{targets, kind_targets}
use Rattle.fib_resolve.specs.declared.types.Path.{Path}
use Rattle.fib_resolve.specs.declared.types.PathKind.{PathKind}
use Rattle.fib_resolve.specs.declared.types.Tables.{Tables}

-- an edge, from the entry at one place to that at another
abbrev pub IsEdge : Tables → List Prefix → ℕ × ℕ → Type 0
IsEdge S order d = (e : Prefix) × (t : Prefix) × (slice_get order d.0 ≡ Some e) × (slice_get order d.1 ≡ Some t) × Contains (targets S e) t

-- those of the first places
abbrev pub AreEdgesOf : Tables → List Prefix → ℕ → List (ℕ × ℕ) → Type 0
AreEdgesOf S order done edges = (d : ℕ × ℕ) → Contains edges d ↔ (d.0 < done) × IsEdge S order d

-- the edge of a path of that kind, from the place to that of its target
abbrev pub IsPathEdge : Tables → List Prefix → ℕ → Prefix → PathKind → ℕ × ℕ → Type 0
IsPathEdge S order from e kind d = (d.0 ≡ from) × (t : Prefix) × Contains (kind_targets S e kind) t × (slice_get order d.1 ≡ Some t)

abbrev pub AddsPath : Tables → List Prefix → ℕ → Prefix → PathKind → List (ℕ × ℕ) → List (ℕ × ℕ) → Type 0
AddsPath S order from e kind old new = (d : ℕ × ℕ) → Contains new d ↔ Contains old d ⊎ IsPathEdge S order from e kind d

abbrev pub AddsPaths : Tables → List Prefix → ℕ → Prefix → List Path → List (ℕ × ℕ) → List (ℕ × ℕ) → Type 0
AddsPaths S order from e paths old new =
    (d : ℕ × ℕ) → Contains new d ↔ Contains old d ⊎ ((p : Path) × Contains paths p × IsPathEdge S order from e p.kind d)

-- both ends of each edge are places in the order
abbrev pub ArePlaces : List Prefix → List (ℕ × ℕ) → Type 0
ArePlaces order edges = (d : ℕ × ℕ) → Contains edges d → (d.0 < length order) × (d.1 < length order)

-- the sources of the edges to that prefix, each once
pub record AreSources (order : List Prefix) (edges : List (ℕ × ℕ)) (e : Prefix) (list : List Prefix) : Type 0 where
  pub once : AllDiffer list
  pub real : (p : Prefix) → Contains list p → (d : ℕ × ℕ) × Contains edges d × (slice_get order d.0 ≡ Some p)
      × (slice_get order d.1 ≡ Some e)
  pub found : (d : ℕ × ℕ) (p : Prefix) → Contains edges d → slice_get order d.0 ≡ Some p → slice_get order d.1 ≡ Some e → Contains list p

-- the first nodes of the edges to that node, in order
abbrev pub sources_of : List (ℕ × ℕ) → ℕ → List ℕ
sources_of edges to = filter_map (λ d. if d.1 == to then Some d.0 else None) edges

-- the graph of these edges turned round
pub record IsTurned (nodes : ℕ) (edges : List (ℕ × ℕ)) (graph : List (List ℕ)) : Type 0 where
  pub size : length graph ≡ nodes
  pub rows : (k : ℕ) → k < nodes → next_of graph k ≡ sources_of edges k

-- the same with each edge once
pub record AreSourcesIn (nodes : ℕ) (edges : List (ℕ × ℕ)) (graph : List (List ℕ)) : Type 0 where
  pub size : length graph ≡ nodes
  pub once : (k : ℕ) → k < nodes → AllDiffer (next_of graph k)
  pub sources : (k from : ℕ) → k < nodes → Contains (next_of graph k) from ↔ Contains {X = ℕ × ℕ} edges (from, k)
