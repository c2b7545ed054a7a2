use Rattle.std.proofs.Common.{take}
use Rattle.fib_resolve_pairs.specs.inner.Places.{AreOwn}
use Rattle.fib_resolve_pairs.proofs.base.own_addresses.Given as goal

abbrev pub invariant-loop-a : goal.invariant-loop-a
invariant-loop-a l = AreOwn (take l.a-index l.addresses) l.set.keys
