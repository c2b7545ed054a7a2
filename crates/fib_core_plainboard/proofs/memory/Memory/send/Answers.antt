use Rattle.std.proofs.Common.{arith}
use Rattle.fib_core_plainboard.specs.inner.Sits.{sent_at}
use Rattle.fib_core_plainboard.proofs.Happening.{may_happen}
use Rattle.fib_core_plainboard.proofs.memory.Memory.send.Goals as goal

pub compare_exchange-requires : goal.compare_exchange-requires
compare_exchange-requires c = (c.self.invariant.0, (let one = c.self.invariant.1 in omega arith), may_happen sent_at (λ n. n) _ _ _ _ _ c.self.invariant.2)
