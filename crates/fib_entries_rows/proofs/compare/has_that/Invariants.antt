use Rattle.std.proofs.Common.{◌≡◌, false, take}
use Rattle.std.specs.List.{list_any}
use Rattle.fib_entries_rows.specs.inner.Compare.{is_that}
use Rattle.fib_entries_rows.proofs.compare.has_that.Given as goal

abbrev pub invariant-loop-place : goal.invariant-loop-place
invariant-loop-place l = list_any (is_that l.lists l.source l.paths) (take l.place l.held) ≡ false
