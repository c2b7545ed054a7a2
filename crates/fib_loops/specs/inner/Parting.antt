-- An order of the nodes that a depth-first walk leaves, and the nodes parted into those that lead to one another.
use Rattle.std.specs.Prelude.{◌≡◌, ◌==◌, ℕ, ◌+◌, ◌<◌, ◌≤◌, List, [], ◌∷◌, ◌++◌, length, fold, Contains, slice_index, slice_set, if◌then◌else◌}
use Rattle.fib_reach.specs.Walks.{Leads}
use Rattle.fib_reach.specs.Graphs.{Edge}

-- the edges of a graph turned round
abbrev pub BackEdge : List (List ℕ) → ℕ → ℕ → Type 0
BackEdge g x y = Edge g y x

-- Each of n nodes stands once in the order, at one less than its rank. An edge leads to a node that was entered before its source was left;
-- a node leads to each that was left while it was entered, and that one was entered no sooner.
pub record IsOrdered (E : ℕ → ℕ → Type 0) (n : ℕ) (starts ranks order : List ℕ) : Type 0 where
  pub order_len : length order ≡ n
  pub node : (k : ℕ) → k < n → slice_index order k < n
  pub rank_at : (k : ℕ) → k < n → slice_index ranks (slice_index order k) ≡ k + 1
  pub placed : (x : ℕ) → x < n → (k : ℕ) × (k < n) × (slice_index order k ≡ x)
  pub early : (x : ℕ) → x < n → slice_index starts x ≤ slice_index ranks x
  pub edges : (x y : ℕ) → x < n → E x y → slice_index starts y ≤ slice_index ranks x
  pub leads : (x y : ℕ) → x < n → y < n → slice_index ranks x ≤ slice_index ranks y → slice_index starts y ≤ slice_index ranks x
      → Leads E y x
  pub nested : (x y : ℕ) → x < n → y < n → slice_index ranks x ≤ slice_index ranks y → slice_index starts y ≤ slice_index ranks x
      → slice_index starts y ≤ slice_index starts x

-- The nodes of the highest ranks have the number of their part: a part has lower numbers than those that it leads to, and its nodes
-- lead to one another. 0 stands where there is none.
pub record IsParted (E : ℕ → ℕ → Type 0) (n : ℕ) (ranks parts : List ℕ) (done : ℕ) : Type 0 where
  pub parts_len : length parts ≡ n
  pub high : (x : ℕ) → slice_index parts x ≤ done
  pub numbered : (x : ℕ) → x < n → n < slice_index ranks x + done → 0 < slice_index parts x
  pub closed : (x y : ℕ) → E x y → 0 < slice_index parts y → (0 < slice_index parts x) × (slice_index parts x ≤ slice_index parts y)
  pub together : (x y : ℕ) → 0 < slice_index parts x → slice_index parts x ≡ slice_index parts y → Leads E x y

-- one more part grows from its root, the numberless node of the highest rank; all that lead to its first members have a number
pub record IsGrowing (E : ℕ → ℕ → Type 0) (n : ℕ) (starts ranks : List ℕ) (number root : ℕ) (parts members : List ℕ)
    (done : ℕ) : Type 0 where
  pub parts_len : length parts ≡ n
  pub high : (x : ℕ) → slice_index parts x ≤ number
  pub numbered : (x : ℕ) → x < n → slice_index ranks root < slice_index ranks x → 0 < slice_index parts x
  pub listed : (x : ℕ) → slice_index parts x ≡ number → Contains members x
  pub marked : (x : ℕ) → Contains members x → slice_index parts x ≡ number
  pub below : (x : ℕ) → Contains members x → x < n
  pub has_root : Contains members root
  pub older : (x y : ℕ) → E x y → 0 < slice_index parts y → slice_index parts y < number → (0 < slice_index parts x)
      × (slice_index parts x ≤ slice_index parts y)
  pub newer : (x k : ℕ) → k < done → E x (slice_index members k) → 0 < slice_index parts x
  pub to_root : (x : ℕ) → Contains members x → Leads E x root
  pub within_start : (x : ℕ) → Contains members x → slice_index starts root ≤ slice_index ranks x
  pub within_rank : (x : ℕ) → Contains members x → slice_index ranks x ≤ slice_index ranks root
  pub together : (x y : ℕ) → 0 < slice_index parts x → slice_index parts x < number → slice_index parts x ≡ slice_index parts y
      → Leads E x y
  pub done_low : done ≤ length members

-- the parts and the members after a node, which becomes a member where it has no number
abbrev pub take_one : ℕ → List ℕ × List ℕ → ℕ → List ℕ × List ℕ
take_one number s x = if slice_index s.0 x == 0 then (slice_set s.0 x number, s.1 ++ x ∷ []) else s

abbrev pub take_all : ℕ → List ℕ → List ℕ → List ℕ → List ℕ × List ℕ
take_all number parts members sources = fold (take_one number) (parts, members) sources
