use Rattle.std.proofs.Common.{◌≡◌, ◌++◌}
use Rattle.fib_soak.specs.Scripts.{interfaces, text_of}
use Rattle.fib_soak.proofs.script.put_interfaces.Given as goal

abbrev pub invariant-loop-k : goal.invariant-loop-k
invariant-loop-k l = record {
  told : l.out.items ≡ l.initial.out.items ++ text_of (interfaces l.k);
}
