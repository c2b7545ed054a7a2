-- What a put does, and what it asks.
use Rattle.std.specs.Prelude.{◌≡◌, ◌≢◌, false, ℕ, ◌+◌, ◌≤◌, ◌⊎◌, List, Option, Some}
use Rattle.fib_reach.specs.Walks.{Leads}
use Rattle.fib_union.specs.Unions.{owner, Edge, left_at_once, must_retire}
use Rattle.fib_core.specs.declared.word.Word.{Word}
use Rattle.fib_core.specs.declared.word.Word.TheVariants as words
use Rattle.fib_core.specs.Words.{IsRoomy}
use Rattle.fib_pool.specs.declared.object.Object.{Object}
use Rattle.fib_core_board.specs.Boards.{Board, edge_of, union_of, word_in, board_stored}
use Rattle.fib_core_board.specs.May.{Allows, IsReached, MayChange, MayEmpty, HoldsPromise}
use Rattle.fib_plane_view.specs.declared.put.Put.{Put}
use Rattle.fib_plane_view.specs.declared.put.Put.TheVariants as puts
use Rattle.fib_plane.specs.Planes.{Plane, Holds, IsSwept, counted_more, uncounted}

-- the edge from the cell k would close a cycle in the union of current and retired edges
abbrev pub Closes : Board → ℕ → Word → Type 0
Closes b k w = (y : ℕ) × (edge_of w ≡ Some y) × Leads (Edge (union_of b)) y (owner k)

-- the new target is counted once more; what the replaced edge led to once less, where that edge left at once
abbrev pub stored_objects : Plane → ℕ → Word → List (Option Object)
stored_objects p k w = uncounted (left_at_once (union_of p.board) k) (counted_more (edge_of w) p.objects)

-- one store, and what it frees
pub record IsStored (p q : Plane) (k : ℕ) (w : Word) : Type 0 where
  pub swept : IsSwept (board_stored p.board k w) q.board (stored_objects p k w) q.objects
  pub records : q.records ≡ p.records
  pub spare : p.spare ≤ q.spare + 1
  -- where no pass can come nothing is retired
  pub spared : must_retire (union_of p.board) k ≡ false → p.spare ≤ q.spare

abbrev pub IsPlanePut : Plane → Plane → ℕ → Word → Put → Type 0
IsPlanePut p q k w puts.Same = (word_in p.board k ≡ w) × (q ≡ p)
IsPlanePut p q k w puts.Stored = (word_in p.board k ≢ w) × (Closes p.board k w → ⊥) × IsStored p q k w
IsPlanePut p q k w puts.Dropped =
    (word_in p.board k ≢ w)
    × Closes p.board k w
    × (((word_in p.board k ≡ words.Drop) × (q ≡ p)) ⊎ ((word_in p.board k ≢ words.Drop) × IsStored p q k words.Drop))

-- what the cell holds after it
abbrev pub left_by : Put → Word → Word
left_by puts.Same w = w
left_by puts.Stored w = w
left_by puts.Dropped w = words.Drop

-- what a put of w would store: w, or Drop where w closes a cycle
abbrev pub Puts : Board → ℕ → Word → Word → Type 0
Puts b k w z = ((z ≡ w) × (Closes b k w → ⊥)) ⊎ ((z ≡ words.Drop) × Closes b k w)

-- what it asks beside live objects and room: the store's conditions, but for those on cycles and on another word
pub record MayPut (p : Plane) (k : ℕ) (w : Word) : Type 0 where
  pub allowed : Allows p.board
  pub roomy : IsRoomy w
  pub seen : word_in p.board k ≢ w → (Closes p.board k w → ⊥) → (w ≡ words.Drop → IsReached p.board (owner k)) → MayChange p.board k w
  pub dropped : Closes p.board k w → IsReached p.board (owner k) → MayChange p.board k words.Drop
  pub aside : word_in p.board k ≢ w → (w ≡ words.Drop) ⊎ Closes p.board k w → (IsReached p.board (owner k) → ⊥) → MayEmpty p.board k
  -- the promise of steady traffic holds after the store too, for names whose balances are held
  pub serves : (z : Word) → Puts p.board k w z → word_in p.board k ≢ z → HoldsPromise (board_stored p.board k z) (Holds p)
