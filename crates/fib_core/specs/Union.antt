-- The union of current and retired edges, and what a store and a scan make of it.
use Rattle.std.specs.Prelude.{◌≡◌, ℕ, zero, suc, ◌+◌, ◌^◌, ◌⊎◌, ◌<◌, ◌≤◌, Bool, true, false, ◌&&◌, if◌then◌else◌, List, [], ◌∷◌, Option}
use Rattle.std.specs.Prelude.{Some, None, map, slice_index, slice_set}
use Rattle.fib_reach.specs.Walks.{Walk}
use Rattle.fib_union.specs.Marks.{Mark, unseen, first, passed, mark_at, looked, all_passed}
use Rattle.fib_union.specs.Unions as edges
use Rattle.fib_union.specs.Unions.{owner}
use Rattle.fib_core.specs.declared.word.Word.{Word}
use Rattle.fib_core.specs.declared.word.Word.TheVariants as words
use Rattle.fib_core.specs.Words.{goes, target, decoded, tag_of, value_of}
use Rattle.fib_core.specs.Walk.{word_at}

-- a copy of an edge that was replaced in this cell
pub record Retired : Type 0 where
  pub cell : ℕ
  pub word : ℕ
  pub marks : List Mark

pub record Union : Type 0 where
  pub cells : List ℕ
  pub retired : List Retired

abbrev pub AnyOf : {A : Type 0} → (A → Type 0) → List A → Type 0
AnyOf P [] = ⊥
AnyOf P (x ∷ xs) = P x ⊎ AnyOf P xs

-- the word lies in the cell, or is one of its retired ones
abbrev pub Lies : Union → ℕ → ℕ → Type 0
Lies u k w = (slice_index u.cells k ≡ w) ⊎ AnyOf (λ r. (r.cell ≡ k) × (r.word ≡ w)) u.retired

-- an edge of the union
abbrev pub Goes : Union → ℕ → ℕ → Type 0
Goes u k w = (goes w ≡ true) × Lies u k w

-- some edge of the union leads from one object to the other
abbrev pub Edge : Union → ℕ → ℕ → Type 0
Edge u x y = (k : ℕ) × (w : ℕ) × (owner k ≡ x) × (target w ≡ y) × Goes u k w

-- the worker whose pass word is p may still be on a retired copy with this mark
abbrev pub IsOpen : ℕ → Mark → Type 0
IsOpen p unseen = Unit {0}
IsOpen p (first w) = w ≡ p
IsOpen p passed = ⊥

-- an edge on which a pass of worker n with the pass word p may stand
abbrev pub Usable : Union → ℕ → ℕ → ℕ → ℕ → Type 0
Usable u n p k w =
    (slice_index u.cells k ≡ w) ⊎ AnyOf (λ r. (r.cell ≡ k) × (r.word ≡ w) × IsOpen p (mark_at r.marks n)) u.retired

abbrev pub retire_if : Bool → Retired → List Retired → List Retired
retire_if true r rs = r ∷ rs
retire_if false r rs = rs

-- a store of w into the cell k: the edge that it replaces is retired with these marks, or leaves
abbrev pub stored : Bool → List Mark → Union → ℕ → ℕ → Union
stored keep fresh u k w = record {
  cells = slice_set u.cells k w;
  retired = retire_if (keep && goes (slice_index u.cells k)) (record { cell = k; word = slice_index u.cells k; marks = fresh }) u.retired;
}

-- the same union as edges between objects: where each cell leads, and copies of where the retired words led
abbrev pub edge_in : ℕ → Option ℕ
edge_in n = if goes n then Some (target n) else None

abbrev pub copy_of : Retired → edges.Retired
copy_of r = record { cell = r.cell; to = target r.word; marks = r.marks }

abbrev pub edges_of : Union → edges.Union
edges_of u = record { edges = map edge_in u.cells; retired = map copy_of u.retired }

-- each of these copies is of an edge
abbrev pub AreEdges : List Retired → Type 0
AreEdges [] = Unit {0}
AreEdges (r ∷ rs) = (goes r.word ≡ true) × AreEdges rs

-- the edge that a store into this cell replaces is retired: its object is 0, from which passes start, or an edge leads
-- to it
unfoldable pub must_retire : Union → ℕ → Bool
must_retire u k = edges.must_retire (edges_of u) k

abbrev pub drop_if : Bool → Retired → List Retired → List Retired
drop_if true r rs = rs
drop_if false r rs = r ∷ rs

abbrev pub remark : ℕ → ℕ → Retired → Retired
remark n w r = record { cell = r.cell; word = r.word; marks = looked n w r.marks }

abbrev pub scan_retired : ℕ → ℕ → List Retired → List Retired
scan_retired n w [] = []
scan_retired n w (r ∷ rs) = drop_if (all_passed (looked n w r.marks)) (remark n w r) (scan_retired n w rs)

abbrev pub scanned : Union → ℕ → ℕ → Union
scanned u n w = record { cells = u.cells; retired = scan_retired n w u.retired }

-- the forms of cells

abbrev pub IsPlyWord : Word → Type 0
IsPlyWord (words.ToPly o) = Unit {0}
IsPlyWord (words.ToBalance o) = Unit {0}
IsPlyWord words.Drop = ⊥
IsPlyWord words.Receive = ⊥
IsPlyWord (words.Glean i) = ⊥
IsPlyWord (words.ToAdjacency o) = ⊥
IsPlyWord (words.Plain n) = ⊥

abbrev pub IsBucketWord : Word → Type 0
IsBucketWord words.Drop = Unit {0}
IsBucketWord words.Receive = Unit {0}
IsBucketWord (words.Glean i) = Unit {0}
IsBucketWord (words.ToBalance o) = Unit {0}
IsBucketWord (words.ToAdjacency o) = Unit {0}
IsBucketWord (words.ToPly o) = ⊥
IsBucketWord (words.Plain n) = ⊥

-- a plain number below the bound
pub record IsPlain (bound : ℕ) (w : Word) : Type 0 where
  pub plain : tag_of w ≡ 6
  pub below : value_of w < bound

-- an adjacency: interface, next hop, and 0 or MAC + 1
abbrev pub IsAdjacencyWord : ℕ → Word → Type 0
IsAdjacencyWord zero w = IsPlain (2 ^ 32) w
IsAdjacencyWord (suc zero) w = IsPlain (2 ^ 32) w
IsAdjacencyWord (suc (suc zero)) w = IsPlain (2 ^ 48 + 1) w
IsAdjacencyWord (suc (suc (suc s))) w = w ≡ words.Drop

-- the cell s of an object into which such an edge leads may hold the word
abbrev pub HasForm : Word → ℕ → Word → Type 0
HasForm (words.ToPly o) s w = IsPlyWord w
HasForm (words.ToBalance o) s w = IsBucketWord w
HasForm (words.ToAdjacency o) s w = IsAdjacencyWord s w
HasForm words.Drop s w = Unit {0}
HasForm words.Receive s w = Unit {0}
HasForm (words.Glean i) s w = Unit {0}
HasForm (words.Plain n) s w = Unit {0}

-- an edge of the union to a ply
abbrev pub PlyEdge : Union → ℕ → ℕ → Type 0
PlyEdge u x y = (k : ℕ) × (w : ℕ) × (owner k ≡ x) × (decoded w ≡ words.ToPly y) × Goes u k w

-- well-typed edges: all edges into an object have one tag, none leads to the root, the objects have the forms of the edges into them,
-- and plies lie at most seven deep
pub record IsTyped (u : Union) : Type 0 where
  pub one_tag : (k w j v : ℕ) → Goes u k w → Goes u j v → target w ≡ target v
      → tag_of (decoded w) ≡ tag_of (decoded v)
  pub rootless : (k w : ℕ) → Goes u k w → target w ≡ 0 → ⊥
  pub plies : (k w j v : ℕ) → Goes u k w → tag_of (decoded w) ≡ 3 → Goes u j v → target v ≡ owner k
      → tag_of (decoded v) ≡ 3
  pub shallow : (n y : ℕ) → Walk (PlyEdge u) n 0 y → n ≤ 7
  pub root : (s : ℕ) → s < 16 → IsPlyWord (word_at u.cells 0 s) ⊎ (word_at u.cells 0 s ≡ words.Drop)
  pub formed : (k w s : ℕ) → Goes u k w → s < 16 → HasForm (decoded w) s (word_at u.cells (target w) s)
