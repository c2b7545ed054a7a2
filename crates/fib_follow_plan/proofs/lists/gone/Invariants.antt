use Rattle.std.proofs.Common.{◌≡◌, flat_map, take}
use Rattle.fib_follow_plan.specs.Made.{goes, only}
use Rattle.fib_follow_plan.proofs.lists.gone.Given as goal

abbrev pub invariant-changed : goal.invariant-changed
invariant-changed l = l.out ≡ flat_map (λ x. only (goes x) x.prefix) (take l.place l.changed)
