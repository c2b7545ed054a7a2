use Rattle.std.proofs.Common.{◌≡◌}
use Rattle.fib_soak.specs.Draws.{repeated, after_4}
use Rattle.fib_soak.specs.Flows.{flows}
use Rattle.fib_soak.proofs.flows.flows_from.Given as goal

abbrev pub invariant-loop : goal.invariant-loop
invariant-loop l = record {
  told : l.flows.items ≡ flows l.counter l.state;
  drawn : l.draws ≡ repeated after_4 l.counter l.state;
}
