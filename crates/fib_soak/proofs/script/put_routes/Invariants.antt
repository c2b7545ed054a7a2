use Rattle.std.proofs.Common.{◌≡◌, ◌++◌}
use Rattle.fib_soak.specs.Draws.{repeated, next}
use Rattle.fib_soak.specs.Scripts.{routes, text_of}
use Rattle.fib_soak.proofs.script.put_routes.Given as goal

abbrev pub invariant-loop-j : goal.invariant-loop-j
invariant-loop-j l = record {
  told : l.out.items ≡ l.initial.out.items ++ text_of (routes l.j l.initial.draws);
  drawn : l.draws ≡ repeated next l.j l.initial.draws;
}
