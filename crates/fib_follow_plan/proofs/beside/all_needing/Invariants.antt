use Rattle.std.proofs.Common.{◌≡◌, flat_map, take}
use Rattle.fib_follow_plan.specs.inner.Others.{needing}
use Rattle.fib_follow_plan.proofs.beside.all_needing.Given as goal

abbrev pub invariant-changed : goal.invariant-changed
invariant-changed l = l.out.items ≡ flat_map (λ x. needing l.features x.prefix) (take l.place l.changed)
