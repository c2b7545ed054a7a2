use Rattle.std.proofs.Common.{◌≡◌, ◌+◌, map, take}
use Rattle.fib_follow_part.proofs.lowering.raised.Given as goal

abbrev pub invariant-numbers : goal.invariant-numbers
invariant-numbers l = l.out.items ≡ map (λ n. l.base + n) (take l.place l.numbers)
