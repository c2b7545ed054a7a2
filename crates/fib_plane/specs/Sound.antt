-- What holds of every plane between two calls.
use Rattle.std.specs.Prelude.{◌≡◌, ◌≢◌, ℕ, zero, suc, ◌+◌, ◌*◌, ◌^◌, ◌<◌, ◌≤◌, List, Option, Some, None, IfSome, length}
use Rattle.fib_base_interned.specs.Interned.{Kept, kept_of, AreInterned}
use Rattle.fib_reach.specs.Walks.{IsAcyclic}
use Rattle.fib_union.specs.Unions.{owner, Edge, into}
use Rattle.fib_core.specs.declared.word.Word.{Word}
use Rattle.fib_core.specs.declared.word.Word.TheVariants as words
use Rattle.fib_core.specs.StandsFor.{mac_word}
use Rattle.fib_pool.specs.declared.object.Object.{Object}
use Rattle.fib_pool.specs.declared.object.AdjacencyRecord.{AdjacencyRecord}
use Rattle.fib_pool.specs.Objects.{at, count_of}
use Rattle.fib_pool.specs.Records.{AreAdjacencies}
use Rattle.fib_core_board.specs.Boards.{Board, union_of, word_in}
use Rattle.fib_core_board.specs.Told.{IsBoard}
use Rattle.fib_plane.specs.Planes.{Plane, IsHeld, Holds}

-- an object's count is the number of edges of the union into it, copies counted, and one more where the control plane holds it
pub record IsCounted (b : Board) (objects : List (Option Object)) (o : ℕ) : Type 0 where
  pub least : into (union_of b) o ≤ count_of objects o
  pub most : count_of objects o ≤ into (union_of b) o + 1

-- the words of an adjacency record: interface, next hop, and 0 or MAC + 1
abbrev pub record_word : AdjacencyRecord → ℕ → Word
record_word r zero = words.Plain r.interface
record_word r (suc zero) = words.Plain r.next_hop
record_word r (suc (suc zero)) = mac_word r.mac
record_word r (suc (suc (suc s))) = words.Drop

-- its numbers have their room
pub record IsInRange (r : AdjacencyRecord) : Type 0 where
  pub interface : r.interface < 2 ^ 32
  pub next_hop : r.next_hop < 2 ^ 32
  pub mac : IfSome r.mac (λ m. m < 2 ^ 48)

-- each record that is kept has an object of its own, which is held and holds the record's words
pub record AreRecords (b : Board) (objects : List (Option Object)) (rows : List (Kept AdjacencyRecord)) : Type 0 where
  pub adjacencies : AreAdjacencies rows objects
  pub other : (o : ℕ) (k : Kept AdjacencyRecord) → kept_of rows o ≡ Some k → o ≢ 0
  pub held : (o : ℕ) (k : Kept AdjacencyRecord) → kept_of rows o ≡ Some k → IsHeld b objects o
  pub words : (o s : ℕ) (k : Kept AdjacencyRecord) → kept_of rows o ≡ Some k → s < 16
      → word_in b (16 * o + s) ≡ record_word k.content s
  pub ranges : (o : ℕ) (k : Kept AdjacencyRecord) → kept_of rows o ≡ Some k → IsInRange k.content

pub record IsPlane (p : Plane) : Type 0 where
  pub board : IsBoard p.board
  pub size : length p.objects ≡ p.board.objects
  pub counted : (o : ℕ) → IsCounted p.board p.objects o
  -- an object that is taken is counted, and a free one has sixteen Drop cells
  pub taken : (o : ℕ) (x : Object) → at p.objects o ≡ Some x → 0 < x.count
  pub free : (k : ℕ) → at p.objects (owner k) ≡ None → word_in p.board k ≡ words.Drop
  pub root : Holds p 0
  pub acyclic : IsAcyclic (Edge (union_of p.board))
  pub interned : AreInterned p.records
  pub records : AreRecords p.board p.objects p.records
