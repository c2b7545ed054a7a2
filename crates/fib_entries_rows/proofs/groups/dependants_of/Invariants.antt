use Rattle.std.proofs.Common.{take}
use Rattle.fib_entries_rows.proofs.Grouping.{AreAt}
use Rattle.fib_entries_rows.proofs.groups.dependants_of.Given as goal

abbrev pub invariant-loop-from : goal.invariant-loop-from
invariant-loop-from l = AreAt l.order (take l.from-index l.from-items) l.out
