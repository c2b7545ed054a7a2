use Rattle.std.proofs.Common.{◌≤◌, length, vec_capacity}
use Rattle.fib_plane.specs.inner.Joined.{IsLoose, AreDying}
use Rattle.fib_plane.proofs.Scanning.{LeftSoFar}
use Rattle.fib_plane.proofs.scan.drop_left.Given as goal

abbrev pub invariant-loop-target : goal.invariant-loop-target
invariant-loop-target g l = record {
  loose : IsLoose l.board l.union l.pool;
  dying : AreDying l.pool l.dying.items;
  room : length l.pool ≤ vec_capacity l.dying;
  so_far : LeftSoFar l.fn.union.left l.union.left l.fn.pool l.pool;
  spare : l.fn.union.spare ≤ l.union.spare;
  kept : vec_capacity l.fn.dying ≤ vec_capacity l.dying;
}

abbrev pub decreases-loop-target : goal.decreases-loop-target
decreases-loop-target g l = length l.union.left
