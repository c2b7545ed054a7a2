use Rattle.std.proofs.Common.{◌≡◌, ◌++◌, take}
use Rattle.std.specs.Prelude.{flat_map}
use Rattle.fib_resolve.specs.Pairs.{connected_pairs}
use Rattle.fib_resolve_pairs.proofs.base.add_all_connected.Given as goal

abbrev pub invariant-loop-a : goal.invariant-loop-a
invariant-loop-a l = l.out.items ≡ l.fn.out.items ++ flat_map connected_pairs (take l.a-index l.addresses)
