use Rattle.std.proofs.Common.{◌≡◌, true, take}
use Rattle.std.specs.List.{list_all}
use Rattle.fib_entries_rows.specs.Known.{content_of}
use Rattle.fib_entries_rows.specs.inner.Compare.{has_that}
use Rattle.fib_entries_rows.proofs.compare.all_there.Given as goal

abbrev pub invariant-loop-place : goal.invariant-loop-place
invariant-loop-place l = list_all (λ p. has_that l.others l.there p.0 (content_of l.lists p.1)) (take l.place l.held) ≡ true
