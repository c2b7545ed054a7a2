use Rattle.std.proofs.Common.{◌≡◌, length}
use Rattle.std.specs.List.{AllByRecursion}
use Rattle.fib_resolve.specs.Reachable.{IsWritten}
use Rattle.trial_plain.proofs.changes.changes.Given as goal

abbrev pub invariant-loop-place : goal.invariant-loop-place
invariant-loop-place l = record {
  written : AllByRecursion IsWritten l.edits.items;
  long : length l.edits.items ≡ l.place;
}
