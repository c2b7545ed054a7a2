use Rattle.std.proofs.Common.{◌≡◌, take}
use Rattle.std.specs.Prelude.{flat_map}
use Rattle.fib_resolve.specs.Pairs.{recursive_hops}
use Rattle.fib_resolve_pairs.proofs.paths.recursive_hops.Given as goal

abbrev pub invariant-loop-place : goal.invariant-loop-place
invariant-loop-place l = l.out.items ≡ flat_map recursive_hops (take l.place l.routes)
