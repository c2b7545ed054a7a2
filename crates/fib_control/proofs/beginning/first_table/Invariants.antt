use Rattle.std.proofs.Common.{◌≡◌, ◌∷◌, map, take}
use Rattle.fib_addr.specs.Longest.{everything}
use Rattle.fib_entries_rows.specs.Known.{prefix_of}
use Rattle.fib_control.specs.inner.Starting.{IsStarted}
use Rattle.fib_control.proofs.beginning.first_table.Given as goal

abbrev pub invariant-loop-row : goal.invariant-loop-row
invariant-loop-row g l = record {
  started : IsStarted (g.P.Objects.promise l.on) l.table (g.P.Objects.view l.on) (everything ∷ take l.row (map prefix_of l.entries.rows));
  promise : g.P.Objects.promise l.on ≡ g.P.Objects.promise l.initial.on;
}
