use Rattle.std.proofs.Common.{◌≡◌, flat_map, take}
use Rattle.fib_resolve.specs.Sizes.{plies_of}
use Rattle.fib_follow_sized.proofs.moved.on_way.Given as goal

abbrev pub invariant-loop-p : goal.invariant-loop-p
invariant-loop-p l = l.out.items ≡ flat_map plies_of (take l.p-index l.prefixes)
