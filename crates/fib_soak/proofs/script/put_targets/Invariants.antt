use Rattle.std.proofs.Common.{◌≡◌, ◌++◌}
use Rattle.fib_soak.specs.Draws.{repeated, after_4}
use Rattle.fib_soak.specs.Scripts.{targets, text_of}
use Rattle.fib_soak.proofs.script.put_targets.Given as goal

abbrev pub invariant-loop-j : goal.invariant-loop-j
invariant-loop-j l = record {
  told : l.out.items ≡ l.initial.out.items ++ text_of (targets l.j l.initial.draws);
  drawn : l.draws ≡ repeated after_4 l.j l.initial.draws;
}
