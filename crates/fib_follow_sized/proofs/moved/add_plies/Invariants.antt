use Rattle.std.proofs.Common.{◌≡◌, ◌++◌, ◌*◌, map}
use Rattle.std.specs.List.{range_with_len}
use Rattle.fib_addr.specs.Prefixes.{masked}
use Rattle.fib_follow_sized.proofs.moved.add_plies.Given as goal

abbrev pub invariant-loop-k : goal.invariant-loop-k
invariant-loop-k l = l.out.items ≡ l.fn.out.items ++ map (λ k. masked l.p.bits (4 * k)) (range_with_len 0 l.k)
