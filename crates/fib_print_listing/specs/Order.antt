-- Lists in order, and texts in a row.
use Rattle.std.specs.Prelude.{◌≡◌, ◌↔◌, Contains, ℕ, ◌+◌, ◌==◌, ◌&&◌, ◌||◌, ◌++◌, [], ◌∷◌, List, Bool, true, false, fold, insert, length, position}
use Rattle.std.specs.Prelude.{nat_lt, unwrap_or, if◌then◌else◌}
use Rattle.std.specs.List.{AllByRecursion}
use Rattle.std.specs.Ordering.{is_lt, is_eq}
use Rattle.fib_addr.specs.Prefixes.{Prefix}
use Rattle.fib_resolve.specs.Keys.{path_cmp}
use Rattle.fib_resolve.specs.declared.pairs.Adjacency.{Adjacency}
use Rattle.fib_resolve.specs.declared.types.Path.{Path}

-- x in front of the first that it stands before, or at the end
abbrev pub put_in : {X : Type 0} → (X → X → Bool) → List X → X → List X
put_in before xs x = insert xs (unwrap_or (position (before x) xs) (length xs)) x

-- the elements in order, where before says which of two stands in front
abbrev pub in_order : {X : Type 0} → (X → X → Bool) → List X → List X
in_order before xs = fold (put_in before) [] xs

-- by the bits, then by the length
abbrev pub prefix_before : Prefix → Prefix → Bool
prefix_before p q = nat_lt p.bits q.bits || (p.bits == q.bits && nat_lt p.len q.len)

-- by the interface, then by the next hop
abbrev pub adjacency_before : Adjacency → Adjacency → Bool
adjacency_before x y = nat_lt x.interface y.interface || (x.interface == y.interface && nat_lt x.next_hop y.next_hop)

-- by the first paths that differ; a list that another begins with stands first
abbrev pub list_before : List Path → List Path → Bool
list_before [] [] = false
list_before [] (q ∷ qs) = true
list_before (p ∷ ps) [] = false
list_before (p ∷ ps) (q ∷ qs) = if is_lt (path_cmp p q) then true else (if is_eq (path_cmp p q) then list_before ps qs else false)

-- each element stands before all behind it
abbrev pub IsOrderedBy : {X : Type 0} → (X → X → Bool) → List X → Type 0
IsOrderedBy before [] = Unit {0}
IsOrderedBy before (x ∷ xs) = AllByRecursion (λ y. before x y ≡ true) xs × IsOrderedBy before xs

-- the list is in order and has these members
pub record IsListed {X : Type 0} (before : X → X → Bool) (xs sorted : List X) : Type 0 where
  pub ordered : IsOrderedBy before sorted
  pub members : (x : X) → Contains sorted x ↔ Contains xs x

-- what stands between two texts in a row, and not before the first
abbrev pub gap : List ℕ → ℕ → List ℕ
gap sep k = if k == 0 then [] else sep

-- the texts from the k-th on, with that between each two
abbrev pub row_from : List ℕ → ℕ → List (List ℕ) → List ℕ
row_from sep k [] = []
row_from sep k (text ∷ texts) = gap sep k ++ text ++ row_from sep (k + 1) texts
