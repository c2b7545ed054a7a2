use Rattle.std.proofs.Common.{take}
use Rattle.fib_follow_plan.specs.inner.Telling.{AreAnew, Grows}
use Rattle.fib_follow_plan.proofs.changed.add_changed.Given as goal

abbrev pub invariant-changed : goal.invariant-changed
invariant-changed l = Grows l.view l.covers l.fn.out.items l.out.items × AreAnew (take l.place l.changed) l.out.items
