use Rattle.std.proofs.Common.{◌≡◌, ◌++◌}
use Rattle.fib_soak.specs.Draws.{repeated}
use Rattle.fib_soak.specs.Scripts.{changes, after_change, text_of}
use Rattle.fib_soak.proofs.script.put_changes.Given as goal

abbrev pub invariant-loop : goal.invariant-loop
invariant-loop l = record {
  told : l.out.items ≡ l.initial.out.items ++ text_of (changes l.counter l.initial.draws);
  drawn : l.draws ≡ repeated after_change l.counter l.initial.draws;
}
