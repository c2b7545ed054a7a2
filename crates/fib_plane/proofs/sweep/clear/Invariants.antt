use Rattle.std.proofs.Common.{◌≡◌, ◌≤◌, ◌∷◌, length, vec_capacity}
use Rattle.fib_pool.specs.Objects.{free_in}
use Rattle.fib_core_board.specs.May.{HoldsPromise, Allows}
use Rattle.fib_plane.specs.Planes.{IsHeld, IsSwept}
use Rattle.fib_plane.specs.inner.Joined.{IsJoined, AreDying}
use Rattle.fib_plane.proofs.Sweeping.{FirstDrop}
use Rattle.fib_plane.proofs.sweep.clear.Given as goal

abbrev pub invariant-loop-slot : goal.invariant-loop-slot
invariant-loop-slot g l = record {
  joined : IsJoined l.board l.union l.pool;
  dying : AreDying l.pool (l.object ∷ l.dying.items);
  allowed : Allows l.board;
  room : length l.pool ≤ vec_capacity l.dying;
  swept : IsSwept l.fn.board l.board l.fn.pool l.pool;
  serves : HoldsPromise l.board (IsHeld l.board l.pool);
  spare : l.fn.union.spare ≤ l.union.spare;
  kept : vec_capacity l.fn.dying ≤ vec_capacity l.dying;
  free : free_in l.pool ≡ free_in l.fn.pool;
  cleared : FirstDrop l.board l.object l.slot;
}
