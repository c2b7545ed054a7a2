use Rattle.std.proofs.Common.{take}
use Rattle.fib_follow_plan.specs.inner.Telling.{AreAsked, Grows}
use Rattle.fib_follow_plan.proofs.asked.add_all_asked.Given as goal

abbrev pub invariant-changed : goal.invariant-changed
invariant-changed l = Grows l.view l.covers l.fn.out.items l.out.items × AreAsked l.view l.features (take l.place l.changed) l.out.items
