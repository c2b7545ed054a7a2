-- A board joined with the pool of its objects and the adjacency records: what contracts see, and what clearing does.
use Rattle.std.specs.Prelude.{◌≡◌, ℕ, ◌+◌, ◌-◌, ◌<◌, ◌≤◌, ◌⊎◌, Bool, true, false, not, List, [], ◌∷◌, Option, Some, None, length, map}
use Rattle.std.specs.Prelude.{filter, count_by, slice_index, slice_index_or}
use Rattle.fib_base_interned.specs.Interned.{Kept}
use Rattle.fib_union.specs.Marks.{Mark, all_passed, is_even, looked}
use Rattle.fib_union.specs.Unions.{owner, into}
use Rattle.fib_core.specs.declared.word.Word.{Word}
use Rattle.fib_core.specs.declared.word.Word.TheVariants as words
use Rattle.fib_core.specs.Words.{decoded}
use Rattle.fib_core.specs.Union.{Retired, edge_in}
use Rattle.fib_pool.specs.declared.object.Object.{Object}
use Rattle.fib_pool.specs.declared.object.AdjacencyRecord.{AdjacencyRecord}
use Rattle.fib_pool.specs.Objects.{at, count_of, with_count, IsLive}
use Rattle.fib_core_board.specs.Boards.{Board, union_of, word_in, board_scans}

pub record Plane : Type 0 where
  pub board : Board
  -- which objects are taken, as what, and how often each is counted
  pub objects : List (Option Object)
  -- the adjacency records that are kept, under their objects' numbers
  pub records : List (Kept AdjacencyRecord)
  -- how many stores may still replace an edge
  pub spare : ℕ

-- the control plane holds the object: its count is more than the number of edges into it, current and retired
abbrev pub IsHeld : Board → List (Option Object) → ℕ → Type 0
IsHeld b objects o = into (union_of b) o < count_of objects o

-- of a plane
abbrev pub Holds : Plane → ℕ → Type 0
Holds p o = IsHeld p.board p.objects o

-- where the cell k leads, if it holds an edge
abbrev pub leads_from : Board → ℕ → Option ℕ
leads_from b k = edge_in (slice_index b.union.cells k)

-- one count more for where an edge leads that came
abbrev pub counted_more : Option ℕ → List (Option Object) → List (Option Object)
counted_more None xs = xs
counted_more (Some y) xs = with_count xs y (count_of xs y + 1)

-- one count less for where an edge led that left
abbrev pub uncounted : Option ℕ → List (Option Object) → List (Option Object)
uncounted None xs = xs
uncounted (Some y) xs = with_count xs y (count_of xs y - 1)

-- with one hold less
abbrev pub released : Plane → ℕ → List (Option Object)
released p o = with_count p.objects o (count_of p.objects o - 1)

-- another word than Drop
abbrev pub is_word : Word → Bool
is_word words.Drop = false
is_word words.Receive = true
is_word (words.Glean i) = true
is_word (words.ToPly o) = true
is_word (words.ToBalance o) = true
is_word (words.ToAdjacency o) = true
is_word (words.Plain n) = true

-- the cells that hold one
unfoldable pub filled : Board → ℕ
filled b = count_by (λ n. is_word (decoded n)) b.union.cells

-- the board with other cells, other copies and another count of stores
abbrev pub with_cells : Board → List ℕ → List Retired → ℕ → Board
with_cells b cells retired stored = record b { union = record { cells = cells; retired = retired }; stored = stored }

-- objects were cleared and given back: what is live has kept its kind, its cells and its hold, and each cell that was cleared was stored once
pub record IsSwept (b c : Board) (xs ys : List (Option Object)) : Type 0 where
  pub frame : c ≡ with_cells b c.union.cells b.union.retired c.stored
  pub taken : (o : ℕ) (y : Object) → at ys o ≡ Some y → (x : Object) × (at xs o ≡ Some x) × (x.kind ≡ y.kind)
  pub fewer : (o : ℕ) → count_of ys o ≤ count_of xs o
  pub cells : (k : ℕ) → IsLive ys (owner k) → word_in c k ≡ word_in b k
  pub cleared : (k : ℕ) → (word_in c k ≡ word_in b k) ⊎ (word_in c k ≡ words.Drop)
  pub holds : (o : ℕ) → count_of ys o + into (union_of b) o ≡ count_of xs o + into (union_of c) o
  pub stored : c.stored + filled c ≡ b.stored + filled b

-- each count fell by the edges that left, and no object was given back
pub record IsUncounted (b c : Board) (xs ys : List (Option Object)) : Type 0 where
  pub size : length ys ≡ length xs
  pub counts : (o : ℕ) → count_of ys o + into (union_of b) o ≡ count_of xs o + into (union_of c) o
  pub none : (o : ℕ) → at ys o ≡ None → at xs o ≡ None
  pub kinds : (o : ℕ) (y : Object) → at ys o ≡ Some y → (x : Object) × (at xs o ≡ Some x) × (x.kind ≡ y.kind)

-- of a worker that isn't out the word found is even
abbrev pub AreAtRest : Board → List ℕ → Type 0
AreAtRest b words = (n : ℕ) → n < length words → slice_index_or b.out n false ≡ false → is_even (slice_index words n) ≡ true

-- a copy after looks at the words of the workers from n on, and whether it stays then: some worker has not passed it
abbrev pub looked_from : ℕ → List ℕ → List Mark → List Mark
looked_from n [] marks = marks
looked_from n (w ∷ ws) marks = looked_from (n + 1) ws (looked n w marks)

abbrev pub looked_copy : ℕ → List ℕ → Retired → Retired
looked_copy n ws r = record { cell = r.cell; word = r.word; marks = looked_from n ws r.marks }

abbrev pub stays : ℕ → List ℕ → Retired → Bool
stays n ws r = not (all_passed (looked_from n ws r.marks))

-- the copies that stay, with their marks
abbrev pub left_after : ℕ → List ℕ → List Retired → List Retired
left_after n ws rs = map (looked_copy n ws) (filter (stays n ws) rs)

-- the workers' pass words were looked at, the edges that left were counted no more, and what that freed was cleared and given back
pub record IsPlaneScanned (p q : Plane) : Type 0 where
  pub words : List ℕ
  pub each : length words ≡ p.board.workers
  pub rests : AreAtRest p.board words
  -- a copy leaves exactly where it is passed for every worker
  pub copies : q.board.union.retired ≡ left_after 0 words p.board.union.retired
  pub mid : List (Option Object)
  pub counted : IsUncounted p.board (board_scans 0 words p.board) p.objects mid
  pub swept : IsSwept (board_scans 0 words p.board) q.board mid q.objects
  pub records : q.records ≡ p.records
  pub spare : p.spare ≤ q.spare
