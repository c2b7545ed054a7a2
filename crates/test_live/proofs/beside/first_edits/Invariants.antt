use Rattle.std.proofs.Common.{◌≡◌, length}
use Rattle.std.specs.List.{AllByRecursion}
use Rattle.fib_resolve.specs.Reachable.{IsWritten}
use Rattle.test_live.proofs.beside.first_edits.Given as goal

abbrev pub invariant-loop-number : goal.invariant-loop-number
invariant-loop-number l = record {
  written : AllByRecursion IsWritten l.edits.items;
  long : length l.edits.items ≡ l.number;
}
