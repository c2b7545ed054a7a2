use Rattle.std.proofs.Common.{◌≡◌, ◌++◌}
use Rattle.fib_cover.proofs.set.gather.Given as goal

abbrev pub invariant-loop-prefix : goal.invariant-loop-prefix
invariant-loop-prefix l = l.out.items ++ l.prefix-iterator ≡ l.fn.part
