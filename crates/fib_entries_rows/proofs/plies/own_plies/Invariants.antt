use Rattle.std.proofs.Common.{◌≡◌, ◌≤◌}
use Rattle.fib_entries_rows.specs.inner.Plies.{own_below}
use Rattle.fib_entries_rows.proofs.plies.own_plies.Given as goal

abbrev pub invariant-loop-depth : goal.invariant-loop-depth
invariant-loop-depth l = record {
  plies : l.plies ≡ own_below l.p l.before l.after l.depth;
  few : l.plies ≤ l.depth;
}
