use Rattle.std.proofs.Common.{take}
use Rattle.fib_follow_plan.specs.Noted.{ForgetsAll}
use Rattle.fib_follow_plan.proofs.Keeping.{Keeps}
use Rattle.fib_follow_plan.proofs.noting.forget_all.Given as goal

abbrev pub invariant-loop-x : goal.invariant-loop-x
invariant-loop-x l = Keeps l.list l.fn.features l.features × ForgetsAll (take l.x-index l.list) l.fn.features l.features
