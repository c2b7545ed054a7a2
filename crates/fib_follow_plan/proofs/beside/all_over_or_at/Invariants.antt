use Rattle.std.proofs.Common.{◌≡◌, flat_map, take}
use Rattle.fib_follow_plan.specs.inner.Others.{over_or_at}
use Rattle.fib_follow_plan.proofs.beside.all_over_or_at.Given as goal

abbrev pub invariant-changes : goal.invariant-changes
invariant-changes l = l.out.items ≡ flat_map (over_or_at l.features) (take l.place l.changes)
