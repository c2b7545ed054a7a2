use Rattle.std.proofs.Common.{take}
use Rattle.fib_entries_rows.specs.inner.Building.{AreTaken}
use Rattle.fib_entries_rows.proofs.build.take_all.Given as goal

abbrev pub invariant-loop-x : goal.invariant-loop-x
invariant-loop-x l = AreTaken l.lists (take l.x-index l.pairs) l.out.items
