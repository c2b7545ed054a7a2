use Rattle.std.proofs.Common.{◌≤◌, length}
use Rattle.std.specs.List.{AllByRecursion}
use Rattle.fib_resolve.specs.Reachable.{IsWritten}
use Rattle.test_cases.proofs.changing.Cursor.batch.Given as goal

abbrev pub invariant-loop-line : goal.invariant-loop-line
invariant-loop-line l = record {
  written : AllByRecursion IsWritten l.edits.items;
  long : length l.edits.items ≤ l._line;
}
