use Rattle.std.proofs.Common.{map, take}
use Rattle.fib_cover.specs.Covers.{IsAscending}
use Rattle.fib_entries_rows.specs.Known.{prefix_of}
use Rattle.fib_follow_write.specs.Steps.{AreTaken}
use Rattle.fib_follow_write.specs.inner.Stepped.{HasGone}
use Rattle.fib_follow_write.proofs.rows.go_all.Given as goal

abbrev pub invariant-rows : goal.invariant-rows
invariant-rows l = AreTaken HasGone (take l.place l.prefixes) l.fn.rows l.rows × IsAscending (map prefix_of l.rows)
