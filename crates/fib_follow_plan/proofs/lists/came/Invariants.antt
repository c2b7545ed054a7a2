use Rattle.std.proofs.Common.{◌≡◌, flat_map, take}
use Rattle.fib_follow_plan.specs.Made.{comes, only}
use Rattle.fib_follow_plan.proofs.lists.came.Given as goal

abbrev pub invariant-changed : goal.invariant-changed
invariant-changed l = l.out ≡ flat_map (λ x. only (comes l.view.before.rows x) x.prefix) (take l.place l.changed)
