use Rattle.std.proofs.Common.{take}
use Rattle.std.specs.List.{AllZip}
use Rattle.fib_follow_write.specs.Written.{IsNumbered}
use Rattle.fib_follow_write.proofs.bodies.numbers.Given as goal

abbrev pub invariant-pairs : goal.invariant-pairs
invariant-pairs l = AllZip (IsNumbered l.lists) (take l.place l.pairs) l.out.items
