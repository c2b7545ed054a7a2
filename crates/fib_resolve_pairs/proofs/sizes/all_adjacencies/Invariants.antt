use Rattle.std.proofs.Common.{◌≡◌, take}
use Rattle.std.specs.Prelude.{flat_map}
use Rattle.fib_resolve.specs.Sizes.{adjacencies_of}
use Rattle.fib_resolve_pairs.proofs.sizes.all_adjacencies.Given as goal

abbrev pub invariant-loop-e : goal.invariant-loop-e
invariant-loop-e l = l.out.items ≡ flat_map (adjacencies_of l.known) (take l.e-index l.e-items)
