-- A set in the order of its members' keys, seen as the list of its members, the least key first.
use Rattle.std.specs.Prelude.{ℕ, ◌<◌, ◌==◌, List, [], ◌∷◌, Option, Some, None, filter, nat_lt, nat_le, if◌then◌else◌}
use Rattle.std.specs.List.{AllByRecursion}

-- the members in order, and for how many more there is room at least
pub record Order (T : Type 0) : Type 0 where
  pub members : List T
  pub spare : ℕ

-- each member stands before those with greater keys, and no two have one key
abbrev pub IsAscending : {T : Type 0} → (T → ℕ) → List T → Type 0
IsAscending rank [] = Unit {0}
IsAscending rank (x ∷ xs) = AllByRecursion (λ y. rank x < rank y) xs × IsAscending rank xs

-- the member with that key
abbrev pub found : {T : Type 0} → (T → ℕ) → List T → ℕ → Option T
found rank [] key = None
found rank (x ∷ xs) key = if rank x == key then Some x else found rank xs key

-- the members with lower keys, with greater keys, and with that key or greater ones
abbrev pub below : {T : Type 0} → (T → ℕ) → ℕ → List T → List T
below rank key xs = filter (λ x. nat_lt (rank x) key) xs

abbrev pub above : {T : Type 0} → (T → ℕ) → ℕ → List T → List T
above rank key xs = filter (λ x. nat_lt key (rank x)) xs

abbrev pub from : {T : Type 0} → (T → ℕ) → ℕ → List T → List T
from rank key xs = filter (λ x. nat_le key (rank x)) xs

abbrev pub first_of : {T : Type 0} → List T → Option T
first_of [] = None
first_of (x ∷ xs) = Some x

abbrev pub last_of : {T : Type 0} → List T → Option T
last_of [] = None
last_of (x ∷ []) = Some x
last_of (x ∷ y ∷ ys) = last_of (y ∷ ys)
