use Rattle.std.proofs.Common.{take}
use Rattle.fib_follow_plan.specs.inner.Hops.{AreHopsAmong, IsGiven}
use Rattle.fib_follow_plan.proofs.hops.hops_among.Given as goal

abbrev pub invariant-looked : goal.invariant-looked
invariant-looked l = IsGiven l.after.tables l.named l.features → AreHopsAmong l.after.tables (take l.place l.looked) l.set
