use Rattle.std.proofs.Common.{◌≡◌, ◌≤◌, ◌+◌, ◌*◌, take}
use Rattle.fib_entries_rows.proofs.LeafSizes.{ply_count}
use Rattle.fib_entries_rows.proofs.sizes.plies_in.Given as goal

abbrev pub invariant-loop-place : goal.invariant-loop-place
invariant-loop-place l = record {
  plies : l.plies ≡ ply_count (take l.place l.order);
  few : l.plies ≤ 1 + 8 * l.place;
}
