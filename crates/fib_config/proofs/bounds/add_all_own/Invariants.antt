use Rattle.std.proofs.Common.{◌≡◌, ◌++◌, take}
use Rattle.std.specs.Prelude.{flat_map}
use Rattle.fib_config.specs.inner.Bounds.{own_prefixes}
use Rattle.fib_config.proofs.bounds.add_all_own.Given as goal

abbrev pub invariant-loop-a : goal.invariant-loop-a
invariant-loop-a l = l.out.items ≡ l.fn.out.items ++ flat_map own_prefixes (take l.a-index l.addresses)
