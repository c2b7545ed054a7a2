use Rattle.std.proofs.Common.{◌≡◌, ◌∷◌, take}
use Rattle.std.specs.Prelude.{flat_map}
use Rattle.fib_addr.specs.Longest.{everything}
use Rattle.fib_resolve.specs.Sizes.{plies_of}
use Rattle.fib_resolve_pairs.proofs.sizes.plies.Given as goal

abbrev pub invariant-loop-e : goal.invariant-loop-e
invariant-loop-e l = l.out.items ≡ everything ∷ flat_map plies_of (take l.e-index l.e-items)
