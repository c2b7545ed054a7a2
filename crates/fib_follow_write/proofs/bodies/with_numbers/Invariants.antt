use Rattle.std.proofs.Common.{take}
use Rattle.std.specs.List.{AllZip}
use Rattle.fib_follow_write.specs.Written.{IsSourced}
use Rattle.fib_follow_write.proofs.bodies.with_numbers.Given as goal

abbrev pub invariant-paired : goal.invariant-paired
invariant-paired l = AllZip (IsSourced l.lists) (take l.place l.paired) l.out.items
