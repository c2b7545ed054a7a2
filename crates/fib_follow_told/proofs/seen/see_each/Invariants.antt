use Rattle.std.proofs.Common.{take}
use Rattle.fib_follow_told.specs.inner.Gathered.{Gathers}
use Rattle.fib_follow_told.proofs.seen.see_each.Given as goal

abbrev pub invariant-list : goal.invariant-list
invariant-list l = Gathers (take l.place l.list) l.fn.seen l.seen
