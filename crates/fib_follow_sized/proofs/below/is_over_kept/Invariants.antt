use Rattle.std.proofs.Common.{map}
use Rattle.fib_entries_rows.specs.Known.{prefix_of}
use Rattle.fib_follow_view.specs.inner.Told.{entry_in}
use Rattle.fib_follow_sized.proofs.Walking.{Walked}
use Rattle.fib_follow_sized.proofs.below.is_over_kept.Given as goal

abbrev pub invariant-rows : goal.invariant-rows
invariant-rows l = Walked (map prefix_of l.rows) l.q (entry_in l.view) l.place
