-- What the fields of a `Union` stand for, and what stays true of them.
use Rattle.std.specs.Prelude.{◌≡◌, ◌≢◌, ℕ, suc, ◌+◌, ◌*◌, ◌-◌, ◌^◌, ◌<◌, ◌≤◌, ◌⊎◌, min, false, cond, ltb, eqb, List, [], ◌∷◌, ◌++◌, Option}
use Rattle.std.specs.Prelude.{Some, Contains, length, map, reverse, take, count_by, slice_index, slice_index_or}
use Rattle.std.specs.List.{All, fold}
use Rattle.fib_union.specs.Marks.{Mark, unseen, first, passed, is_even}
use Rattle.fib_union.specs.Unions.{Retired, Union, owner, edge_at, leads_to}
use Rattle.fib_union.specs.declared.retired.RetiredEdge.{RetiredEdge}
use Rattle.fib_union.specs.declared.retired.Progress.{Progress}

-- the mark of a worker on the copy at this place: the oldest are passed, then come those that had its word as their first
abbrev pub mark_of : ℕ → Progress → Mark
mark_of i p = cond (ltb i p.passed) passed (cond (ltb i p.met) (first p.word) unseen)

-- a copy without its link: the cell, and where the edge led
abbrev pub plain : RetiredEdge → ℕ × ℕ
plain o = (o.cell, o.to)

abbrev pub retired_from : List Progress → ℕ → List (ℕ × ℕ) → List Retired
retired_from ps i [] = []
retired_from ps i (c ∷ cs) = record { cell = c.0; to = c.1; marks = map (mark_of i) ps } ∷ retired_from ps (i + 1) cs

abbrev pub union_of : List (Option ℕ) → List (ℕ × ℕ) → List Progress → Union
union_of edges cs ps = record { edges = edges; retired = reverse (retired_from ps 0 cs) }

-- the edges, whatever the marks
abbrev pub CellRuns : List (Option ℕ) → ℕ → ℕ → Type 0
CellRuns edges x y = (k : ℕ) × (owner k ≡ x) × (edge_at edges k ≡ Some y)

abbrev pub CopyRuns : List (ℕ × ℕ) → ℕ → ℕ → Type 0
CopyRuns cs x y = (k : ℕ) × (owner k ≡ x) × Contains cs (k, y)

abbrev pub Runs : List (Option ℕ) → List (ℕ × ℕ) → ℕ → ℕ → Type 0
Runs edges cs x y = CellRuns edges x y ⊎ CopyRuns cs x y

unfoldable pub ins_of : List (Option ℕ) → List (ℕ × ℕ) → ℕ → ℕ
ins_of edges cs o = count_by (leads_to o) edges + count_by (λ (c : ℕ × ℕ). eqb c.1 o) cs

-- m is one more than the place of the last copy of an edge from x, or 0
pub record IsNewest (x : ℕ) (os : List RetiredEdge) (m : ℕ) : Type 0 where
  pub within : m ≤ length os
  pub after : (i : ℕ) (d : RetiredEdge) → m ≤ i → i < length os → owner (slice_index_or os i d).cell ≢ x
  pub here : (i : ℕ) (d : RetiredEdge) → m ≡ suc i → owner (slice_index_or os i d).cell ≡ x

-- each object has its newest copy, and each copy tells how far back the next older one of its object is
pub record IsLinked (n : ℕ) (newest : List ℕ) (os : List RetiredEdge) : Type 0 where
  pub size : length newest ≡ n
  pub begins : (x : ℕ) → x < n → IsNewest x os (slice_index newest x)
  pub older : (i : ℕ) (d : RetiredEdge) → i < length os
      → IsNewest (owner (slice_index_or os i d).cell) (take i os) (i + 1 - (slice_index_or os i d).back)

-- all that is new at the end is such
abbrev pub IsGrown : (ℕ → Type 0) → List ℕ → List ℕ → Type 0
IsGrown P xs ys = (new : List ℕ) × (ys ≡ xs ++ new) × All P new

abbrev pub StartsBelow : ℕ → ℕ × ℕ → Type 0
StartsBelow n c = owner c.0 < n

-- every edge starts and ends at an object
pub record IsWithin (n : ℕ) (edges : List (Option ℕ)) (cs : List (ℕ × ℕ)) : Type 0 where
  pub size : length edges ≡ 16 * n
  pub ends : (k y : ℕ) → edge_at edges k ≡ Some y → y < n
  pub starts : All (StartsBelow n) cs
  pub targets : All (λ (c : ℕ × ℕ). c.1 < n) cs

-- edges into each object are counted
pub record IsCounted (n : ℕ) (ins : List ℕ) (edges : List (Option ℕ)) (cs : List (ℕ × ℕ)) : Type 0 where
  pub size : length ins ≡ n
  pub here : (o : ℕ) → o < n → slice_index ins o ≡ ins_of edges cs o

-- a worker's numbers are in order, and a first word is odd
pub record IsProgress (count : ℕ) (p : Progress) : Type 0 where
  pub order : p.passed ≤ p.met
  pub within : p.met ≤ count
  pub odd : p.passed < p.met → is_even p.word ≡ false

-- how many of the oldest copies are passed for each worker
abbrev pub least_of : ℕ → List Progress → ℕ
least_of count ps = fold (λ m (p : Progress). min m p.passed) count ps

abbrev pub AreProgress : ℕ → List Progress → Type 0
AreProgress count ps = All (IsProgress count) ps

-- the numbers where this many of the oldest copies have left
abbrev pub receded : ℕ → Progress → Progress
receded gone p = record { passed = p.passed - gone; met = p.met - gone; word = p.word }

abbrev pub spare_of : ℕ → ℕ → ℕ → ℕ → ℕ
spare_of room count room_left count_left = min (min (room - count) (room_left - (count_left + count))) (4294967295 - count)

pub record IsKept (n : ℕ) (edges : List (Option ℕ)) (ins : List ℕ) (os : List RetiredEdge) (newest : List ℕ) (ps : List Progress)
    (left : List ℕ) (room_left : ℕ) : Type 0 where
  pub some : 0 < n
  pub few : n < 2 ^ 32
  pub within : IsWithin n edges (map plain os)
  pub counted : IsCounted n ins edges (map plain os)
  pub linked : IsLinked n newest os
  pub progress : AreProgress (length os) ps
  pub short : length os < 2 ^ 32
  pub room : length left + length os ≤ room_left
