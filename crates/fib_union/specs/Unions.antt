-- The union of current and retired edges between numbered objects of 16 cells each, and what a store and a look at a worker's word make of it.
--
-- Cell k belongs to object k / 16. Each cell holds one current edge or none. Where an edge is replaced while a pass may still come over it, a
-- copy of it stays, retired, until it is passed for every worker. Each retirement is a copy of its own.
use Rattle.std.specs.Prelude.{◌≡◌, ℕ, ◌+◌, ◌*◌, ◌/◌, ◌⊎◌, Bool, true, false, cond, not, eqb, ltb, ◌||◌, List, [], ◌∷◌, ◌++◌, Option, Some}
use Rattle.std.specs.Prelude.{None, Contains, map, filter, reverse, replicate, count_by, slice_index_or, slice_set}
use Rattle.fib_union.specs.Marks.{Mark, fresh, looked, all_passed}

-- a copy of an edge that was replaced in this cell
pub record Retired : Type 0 where
  pub cell : ℕ
  pub to : ℕ
  pub marks : List Mark

-- where the edge of each cell leads, and the retired copies, newest first
pub record Union : Type 0 where
  pub edges : List (Option ℕ)
  pub retired : List Retired

-- no edges at all
abbrev pub no_edges : ℕ → Union
no_edges objects = record { edges = replicate (16 * objects) None; retired = [] }

-- the object of a cell
abbrev pub owner : ℕ → ℕ
owner k = k / 16

abbrev pub edge_at : List (Option ℕ) → ℕ → Option ℕ
edge_at edges k = slice_index_or edges k None

-- an edge of the union leads from the cell k to y
abbrev pub Goes : Union → ℕ → ℕ → Type 0
Goes u k y = (edge_at u.edges k ≡ Some y) ⊎ ((r : Retired) × Contains u.retired r × (r.cell ≡ k) × (r.to ≡ y))

-- an edge of the union between objects
abbrev pub Edge : Union → ℕ → ℕ → Type 0
Edge u x y = (k : ℕ) × (owner k ≡ x) × Goes u k y

-- a current edge leads from the one object to the other
abbrev pub HasEdge : Union → ℕ → ℕ → Type 0
HasEdge u x y = (k : ℕ) × (owner k ≡ x) × (edge_at u.edges k ≡ Some y)

-- some edge of the union leads to this object
abbrev pub HasIn : Union → ℕ → Type 0
HasIn u o = (k : ℕ) × Goes u k o

abbrev pub leads_to : ℕ → Option ℕ → Bool
leads_to o None = false
leads_to o (Some y) = eqb y o

-- 1 where the edge leads to o, else 0
abbrev pub one : ℕ → Option ℕ → ℕ
one o e = cond (leads_to o e) 1 0

-- how many edges of the union lead to o, each copy counted
unfoldable pub into : Union → ℕ → ℕ
into u o = count_by (leads_to o) u.edges + count_by (λ r. eqb r.to o) u.retired

-- the edge that a store into this cell replaces is retired: its object is 0, from which passes start, or an edge leads to it
unfoldable pub must_retire : Union → ℕ → Bool
must_retire u k = eqb (owner k) 0 || ltb 0 (into u (owner k))

abbrev pub retire_if : Bool → ℕ → List Mark → Option ℕ → List Retired → List Retired
retire_if true k marks (Some y) rs = record { cell = k; to = y; marks = marks } ∷ rs
retire_if true k marks None rs = rs
retire_if false k marks e rs = rs

-- a store into the cell k, of an edge or of none
abbrev pub stored : ℕ → Union → ℕ → Option ℕ → Union
stored workers u k e = record {
  edges = slice_set u.edges k e;
  retired = retire_if (must_retire u k) k (fresh workers) (edge_at u.edges k) u.retired;
}

abbrev pub left_if : Bool → Option ℕ → Option ℕ
left_if true e = None
left_if false e = e

-- where the edge led that such a store replaces, if it is not retired
abbrev pub left_at_once : Union → ℕ → Option ℕ
left_at_once u k = left_if (must_retire u k) (edge_at u.edges k)

abbrev pub marked : ℕ → ℕ → Retired → Retired
marked n w r = record { cell = r.cell; to = r.to; marks = looked n w r.marks }

abbrev pub is_gone : Retired → Bool
is_gone r = all_passed r.marks

-- a look at worker n's word that finds w: the copies that are now passed for every worker leave
abbrev pub scanned : ℕ → ℕ → Union → Union
scanned n w u = record { edges = u.edges; retired = filter (λ r. not (is_gone r)) (map (marked n w) u.retired) }

-- where those led, oldest first
abbrev pub gone_to : ℕ → ℕ → Union → List ℕ
gone_to n w u = map (λ r. r.to) (filter is_gone (reverse (map (marked n w) u.retired)))

-- looks at the words of the workers from n on
abbrev pub scan_from : ℕ → List ℕ → Union → Union
scan_from n [] u = u
scan_from n (w ∷ ws) u = scan_from (n + 1) ws (scanned n w u)

-- where the edges led that leave at these looks, in order
abbrev pub gone_from : ℕ → List ℕ → Union → List ℕ
gone_from n [] u = []
gone_from n (w ∷ ws) u = gone_to n w u ++ gone_from (n + 1) ws (scanned n w u)

-- how often a number stands in a list
abbrev pub times : ℕ → List ℕ → ℕ
times o xs = count_by (λ x. eqb x o) xs

-- what contracts see of a `Union`
pub record Kept : Type 0 where
  pub union : Union
  pub workers : ℕ
  -- where the edges led that looks dropped, which `left` has not answered yet
  pub left : List ℕ
  -- how many edges it has room to retire
  pub spare : ℕ

-- a copy without its marks
abbrev pub unmarked : Retired → ℕ × ℕ
unmarked r = (r.cell, r.to)
