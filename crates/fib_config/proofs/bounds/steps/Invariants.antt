use Rattle.std.proofs.Common.{◌+◌, drop}
use Rattle.fib_addr.specs.Longest.{everything}
use Rattle.fib_config.specs.inner.Bounds.{steps, IsBoundFor}
use Rattle.fib_config.proofs.bounds.steps.Given as goal

abbrev pub invariant-loop-p : goal.invariant-loop-p
invariant-loop-p l = IsBoundFor (l.count + steps l.last (drop l.p-index l.prefixes)) (steps everything l.prefixes)
