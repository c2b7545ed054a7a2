use Rattle.std.proofs.Common.{take}
use Rattle.fib_follow_plan.specs.inner.Hosts.{AreHostsOf}
use Rattle.fib_follow_plan.proofs.hosts.all_hosts.Given as goal

abbrev pub invariant-asks : goal.invariant-asks
invariant-asks l = AreHostsOf l.features (take l.place l.asks) l.out.items
