-- Edges that lie on cycles, and an order in which each other edge leads back.
use Rattle.std.specs.Prelude.{◌≡◌, ℕ, ◌<◌, ◌↔◌, Bool, false, IsTrue, List, length, Contains, slice_index, slice_index_or}
use Rattle.std.specs.List.{All}
use Rattle.fib_reach.specs.Walks.{Leads, Among, AllDiffer}

-- a mark for each edge, and the nodes in order
pub record Marked : Type 0 where
  pub looped : List Bool
  pub order : List ℕ

-- each edge, from the first of the pair to the second, joins two nodes
abbrev pub AreEdges : ℕ → List (ℕ × ℕ) → Type 0
AreEdges nodes edges = All (λ e. (e.0 < nodes) × (e.1 < nodes)) edges

-- the edge lies on a cycle: its target is its source or leads back to it
abbrev pub IsLooped : List (ℕ × ℕ) → ℕ × ℕ → Type 0
IsLooped edges e = Leads (Among edges) e.1 e.0

-- a stands at a place before one where b stands
abbrev pub StandsBefore : List ℕ → ℕ → ℕ → Type 0
StandsBefore xs a b = (i : ℕ) × (j : ℕ) × (i < j) × (j < length xs) × (slice_index xs i ≡ a) × (slice_index xs j ≡ b)

-- each edge is marked exactly where it is looped; the order has each node once, and the target of each other edge before its source
pub record IsMarked (nodes : ℕ) (edges : List (ℕ × ℕ)) (m : Marked) : Type 0 where
  pub marks_len : length m.looped ≡ length edges
  pub loops : (k : ℕ) (d : ℕ × ℕ) → k < length edges → IsTrue (slice_index_or m.looped k false) ↔ IsLooped edges (slice_index_or edges k d)
  pub once : AllDiffer m.order
  pub all : (x : ℕ) → Contains m.order x ↔ x < nodes
  pub targets_first : (k : ℕ) (d : ℕ × ℕ) → k < length edges → slice_index_or m.looped k false ≡ false
      → StandsBefore m.order (slice_index_or edges k d).1 (slice_index_or edges k d).0
