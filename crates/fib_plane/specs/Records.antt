-- What the calls on adjacency records do.
use Rattle.std.specs.Prelude.{◌≡◌, ◌≢◌, ℕ, ◌+◌, ◌*◌, ◌≤◌, ◌==◌, if◌then◌else◌, List, Option, Some, None}
use Rattle.fib_base_interned.specs.Interned.{Kept, kept_of, users_of, Takes, Gives}
use Rattle.fib_core.specs.declared.word.Word.TheVariants as words
use Rattle.fib_core.specs.StandsFor.{mac_word}
use Rattle.fib_pool.specs.declared.object.Kind.TheVariants as kinds
use Rattle.fib_pool.specs.declared.object.Object.{Object}
use Rattle.fib_pool.specs.declared.object.AdjacencyRecord.{AdjacencyRecord}
use Rattle.fib_pool.specs.Objects.{TookObject}
use Rattle.fib_core_board.specs.Boards.{Board, board_stored}
use Rattle.fib_plane.specs.Planes.{Plane, IsSwept, released}

-- the record's three words were stored into the object
abbrev pub board_filled : Board → ℕ → AdjacencyRecord → Board
board_filled b o r =
    board_stored (board_stored (board_stored b (16 * o + 0) (words.Plain r.interface)) (16 * o + 1) (words.Plain r.next_hop)) (16 * o + 2)
    (mac_word r.mac)

-- one user more of a record, under the object x: a kept one, or one that is fresh
pub record TookRecord (p q : Plane) (r : AdjacencyRecord) (x : ℕ) : Type 0 where
  pub takes : Takes p.records q.records r x
  pub shared : (k : Kept AdjacencyRecord) → kept_of p.records x ≡ Some k → (q.board ≡ p.board) × (q.objects ≡ p.objects)
  pub fresh : kept_of p.records x ≡ None → TookObject p.objects q.objects x kinds.Adjacency × (q.board ≡ board_filled p.board x r)
  pub spare : p.spare ≤ q.spare

-- with the last user the hold of the record's object ends
abbrev pub given_objects : Plane → ℕ → List (Option Object)
given_objects p o = if users_of p.records o == 1 then released p o else p.objects

-- one user less, and what that frees
pub record GaveRecord (p q : Plane) (o : ℕ) : Type 0 where
  pub gives : Gives p.records q.records o
  pub shared : users_of p.records o ≢ 1 → (q.board ≡ p.board) × (q.objects ≡ p.objects)
  pub swept : IsSwept p.board q.board (given_objects p o) q.objects
  pub spare : p.spare ≤ q.spare
