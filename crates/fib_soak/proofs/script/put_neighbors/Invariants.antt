use Rattle.std.proofs.Common.{◌≡◌, ◌++◌}
use Rattle.fib_soak.specs.Scripts.{neighbors, text_of}
use Rattle.fib_soak.proofs.script.put_neighbors.Given as goal

abbrev pub invariant-loop-j : goal.invariant-loop-j
invariant-loop-j l = record {
  told : l.out.items ≡ l.initial.out.items ++ text_of (neighbors l.j);
}
