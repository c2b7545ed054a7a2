use Rattle.std.proofs.Common.{take}
use Rattle.fib_follow_plan.specs.inner.Telling.{AreSeen, Grows}
use Rattle.fib_follow_plan.proofs.asked.add_hosts.Given as goal

abbrev pub invariant-hosts : goal.invariant-hosts
invariant-hosts l = Grows l.view l.covers l.fn.out.items l.out.items × AreSeen l.view (take l.place l.hosts) l.out.items
