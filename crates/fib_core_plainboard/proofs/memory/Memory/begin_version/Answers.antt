use Rattle.std.proofs.Common.{arith}
use Rattle.fib_core_plainboard.proofs.Happening.{may_begin}
use Rattle.fib_core_plainboard.proofs.memory.Memory.begin_version.Goals as goal

pub compare_exchange_with-requires : goal.compare_exchange_with-requires
compare_exchange_with-requires c = (c.self.invariant.0, (let one = c.self.invariant.1 in omega arith), may_begin (λ n. n) _ _ _ _ c.self.invariant.2)
