-- What stays true while the nodes of a graph are entered and left, depth first.
use Rattle.std.specs.Prelude.{◌≡◌, ◌≢◌, ◌==◌, ℕ, ◌+◌, ◌*◌, ◌<◌, ◌≤◌, ◌⊎◌, ◌↔◌, List, [], length, map, Contains, slice_index, count_by}
use Rattle.std.specs.List.{AllPairs}
use Rattle.fib_reach.specs.Walks.{Leads}
use Rattle.fib_reach.specs.Graphs.{Edge, next_of}
use Rattle.fib_loops.specs.declared.enter.Entering.{Entering}
use Rattle.fib_loops.specs.declared.enter.Frame.{Frame}

-- the graph has these nodes, and these edges
abbrev pub Joins : List (List ℕ) → ℕ → List (ℕ × ℕ) → Type 0
Joins g nodes edges = (length g ≡ nodes) × ((x y : ℕ) → Edge g x y ↔ Contains edges (x, y))

-- the graph has these nodes, and these edges turned round
abbrev pub JoinsBack : List (List ℕ) → ℕ → List (ℕ × ℕ) → Type 0
JoinsBack g nodes edges = (length g ≡ nodes) × ((x y : ℕ) → Edge g x y ↔ Contains edges (y, x))

-- how many nodes have no number yet
abbrev pub unset : List ℕ → ℕ
unset numbers = count_by (λ s. s == 0) numbers

-- the nodes on the path: they differ, each leads to the later ones, and was entered no later
abbrev pub AreStacked : List (List ℕ) → List ℕ → List ℕ → Type 0
AreStacked g starts path = AllPairs (λ x y. (x ≢ y) × (slice_index starts x ≤ slice_index starts y) × Leads (Edge g) x y) path

-- `order` has the nodes that are left, in that order, and `path` those that are entered and not left, oldest first. The start of a node
-- that is entered is one more than the number of nodes left by then, its rank one more than its place in the order; 0 stands where
-- there is none.
pub record IsEntering (g : List (List ℕ)) (starts ranks order path : List ℕ) : Type 0 where
  pub starts_len : length starts ≡ length g
  pub ranks_len : length ranks ≡ length g
  pub sized : length order + length path + unset starts ≡ length g
  pub starts_low : (x : ℕ) → slice_index starts x ≤ length order + 1
  pub node_left : (k : ℕ) → k < length order → slice_index order k < length g
  pub rank_left : (k : ℕ) → k < length order → slice_index ranks (slice_index order k) ≡ k + 1
  pub start_left : (k : ℕ) → k < length order → 0 < slice_index starts (slice_index order k)
  pub early : (k : ℕ) → k < length order → slice_index starts (slice_index order k) ≤ k + 1
  pub ranked : (x k : ℕ) → slice_index ranks x ≡ k + 1 → (k < length order) × (slice_index order k ≡ x)
  pub node_open : (x : ℕ) → Contains path x → x < length g
  pub rank_open : (x : ℕ) → Contains path x → slice_index ranks x ≡ 0
  pub start_open : (x : ℕ) → Contains path x → 0 < slice_index starts x
  pub entered : (x : ℕ) → 0 < slice_index starts x → (0 < slice_index ranks x) ⊎ Contains path x
  pub stacked : AreStacked g starts path
  pub leads_left : (k m : ℕ) → k ≤ m → m < length order → slice_index starts (slice_index order m) ≤ k + 1
      → Leads (Edge g) (slice_index order m) (slice_index order k)
  pub starts_left : (k m : ℕ) → k ≤ m → m < length order → slice_index starts (slice_index order m) ≤ k + 1
      → slice_index starts (slice_index order m) ≤ slice_index starts (slice_index order k)
  pub leads_open : (x k : ℕ) → Contains path x → k < length order → slice_index starts x ≤ k + 1 → Leads (Edge g) x (slice_index order k)
  pub starts_open : (x k : ℕ) → Contains path x → k < length order → slice_index starts x ≤ k + 1
      → slice_index starts x ≤ slice_index starts (slice_index order k)
  pub edges_left : (k y : ℕ) → k < length order → Edge g (slice_index order k) y → (0 < slice_index starts y)
      × (slice_index starts y ≤ k + 1)

-- the targets that a frame has passed are entered
abbrev pub IsPassed : List (List ℕ) → List ℕ → Frame → Type 0
IsPassed g starts f =
    (f.passed ≤ length (next_of g f.node)) × ((i : ℕ) → i < f.passed → 0 < slice_index starts (slice_index (next_of g f.node) i))

abbrev pub ArePassed : List (List ℕ) → List ℕ → List Frame → Type 0
ArePassed g starts frames = (f : Frame) → Contains frames f → IsPassed g starts f

abbrev pub nodes_of : List Frame → List ℕ
nodes_of frames = map (λ f. f.node) frames

abbrev pub Enters : List (List ℕ) → Entering → Type 0
Enters g w = IsEntering g w.starts.items w.ranks.items w.order.items (nodes_of w.path.items) × ArePassed g w.starts.items w.path.items

-- what is entered stays entered
abbrev pub KeepsEntered : List ℕ → List ℕ → Type 0
KeepsEntered before after = (x : ℕ) → 0 < slice_index before x → 0 < slice_index after x

-- how many steps are left at most
abbrev pub steps_left : Entering → ℕ
steps_left w = 2 * unset w.starts.items + length w.path.items

-- every node is left
abbrev pub HasLeft : List (List ℕ) → Entering → Type 0
HasLeft g w = Enters g w × (w.path.items ≡ []) × ((x : ℕ) → x < length g → 0 < slice_index w.ranks.items x)
