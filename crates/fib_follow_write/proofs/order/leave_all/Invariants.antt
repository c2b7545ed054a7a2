use Rattle.std.proofs.Common.{take}
use Rattle.fib_follow_write.specs.Written.{HaveLeft}
use Rattle.fib_follow_write.proofs.order.leave_all.Given as goal

abbrev pub invariant-order : goal.invariant-order
invariant-order l = HaveLeft (take l.place l.prefixes) l.fn.order l.order
