-- A graph over the numbers below its length, as the list of each node's targets in the order in which they were added.
use Rattle.std.specs.Prelude.{ℕ, ◌<◌, List, [], ◌∷◌, ◌++◌, length, Contains, slice_index_or, slice_set}

-- where the edges of a node lead
abbrev pub next_of : List (List ℕ) → ℕ → List ℕ
next_of g x = slice_index_or g x []

-- the edge is there
abbrev pub Edge : List (List ℕ) → ℕ → ℕ → Type 0
Edge g x y = Contains (next_of g x) y

-- each edge leads to a node
abbrev pub IsClosed : List (List ℕ) → Type 0
IsClosed g = (x y : ℕ) → Edge g x y → y < length g

-- the graph and one edge more
abbrev pub with_edge : List (List ℕ) → ℕ → ℕ → List (List ℕ)
with_edge g x y = slice_set g x (next_of g x ++ y ∷ [])
