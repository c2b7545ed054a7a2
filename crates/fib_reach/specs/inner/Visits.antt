-- What stays true of the room that a search is given, and of its marks.
use Rattle.std.specs.Prelude.{◌≡◌, ◌==◌, ℕ, ◌^◌, ◌<◌, ◌≤◌, List, ◌++◌, length, Contains, slice_index}
use Rattle.std.specs.List.{All, IsDistinct}
use Rattle.fib_reach.specs.Graphs.{IsClosed}

-- the fields of a graph fit together
pub record IsGraph (g : List (List ℕ)) (nodes : ℕ) : Type 0 where
  pub closed : IsClosed g
  pub few : length g < 2 ^ 32
  pub size : nodes ≡ length g

-- what a visit has seen stands in a list, each node once, and bears the visit's number
pub record IsVisit (nodes room : ℕ) (marks : List ℕ) (visit : ℕ) (seen : List ℕ) : Type 0 where
  pub marks_len : length marks ≡ nodes
  pub roomy : nodes ≤ room
  pub passed : (k : ℕ) → slice_index marks k ≤ visit
  pub listed : (x : ℕ) → x < nodes → slice_index marks x ≡ visit → Contains seen x
  pub marked : (x : ℕ) → Contains seen x → slice_index marks x ≡ visit
  pub below : (x : ℕ) → Contains seen x → x < nodes
  pub differ : IsDistinct (λ x y. x == y) seen

-- the fields of a search fit together
pub record IsSearch (nodes room : ℕ) (marks : List ℕ) (visit : ℕ) (seen : List ℕ) (done : ℕ) : Type 0 where
  pub kept : IsVisit nodes room marks visit seen
  pub within : done ≤ length seen

-- all that is new comes from these
abbrev pub GrowsFrom : List ℕ → List ℕ → List ℕ → Type 0
GrowsFrom xs from ys = (new : List ℕ) × (ys ≡ xs ++ new) × All (λ y. Contains from y) new
