use Rattle.std.proofs.Common.{◌≡◌, take}
use Rattle.fib_entries_rows.proofs.dependants.Dependants.of.Given as goal

abbrev pub invariant-loop-p : goal.invariant-loop-p
invariant-loop-p l = l.out ≡ take l.p-index l.list
