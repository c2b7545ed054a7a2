use Rattle.std.proofs.Common.{◌≡◌, ◌++◌, take, map}
use Rattle.fib_resolve.specs.Pairs.{derived_pair}
use Rattle.fib_resolve_pairs.proofs.effective.add_derived.Given as goal

abbrev pub invariant-loop-a : goal.invariant-loop-a
invariant-loop-a l = l.out.items ≡ l.fn.out.items ++ map (derived_pair l.covers) (take l.a-index l.hops)
