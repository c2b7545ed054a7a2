use Rattle.std.proofs.Common.{take}
use Rattle.fib_follow_write.specs.Written.{AreUnled}
use Rattle.fib_follow_write.proofs.edges.unlead_all.Given as goal

abbrev pub invariant-edges : goal.invariant-edges
invariant-edges l = AreUnled (take l.place l.edges) l.fn.rows l.rows
