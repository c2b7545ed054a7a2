use Rattle.std.proofs.Common.{take}
use Rattle.fib_follow_plan.specs.Noted.{AreFoundAll, FindsOnly}
use Rattle.fib_follow_plan.proofs.Keeping.{Stays}
use Rattle.fib_follow_plan.proofs.noting.note_all.Given as goal

abbrev pub invariant-loop-x : goal.invariant-loop-x
invariant-loop-x l = Stays l.fn.features l.features × AreFoundAll (take l.x-index l.list) l.features × FindsOnly l.list l.fn.features l.features
