use Rattle.std.proofs.Common.{◌≡◌, ◌≤◌, ◌+◌, ℕ, List, length}
use Rattle.fib_union.specs.Unions.{into}
use Rattle.fib_core_board.specs.Boards.{board_scans, union_of}
use Rattle.fib_plane.specs.Planes.{AreAtRest}
use Rattle.fib_plane.specs.inner.Joined.{IsLoose}
use Rattle.fib_union.specs.Unions.{times}
use Rattle.fib_plane.proofs.scan.look_all.Given as goal

abbrev pub invariant-loop-worker : goal.invariant-loop-worker
invariant-loop-worker g l = record {
  loose : IsLoose l.board l.union l.pool;
  words : List ℕ;
  each : length words ≡ l.worker;
  scans : l.board ≡ board_scans 0 words l.fn.board;
  rests : AreAtRest l.fn.board words;
  counts : (o : ℕ) → into (union_of l.board) o + times o l.union.left ≡ into (union_of l.fn.board) o + times o l.fn.union.left;
  spare : l.fn.union.spare ≤ l.union.spare;
}
