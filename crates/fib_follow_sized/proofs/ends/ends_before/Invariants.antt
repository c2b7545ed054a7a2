use Rattle.std.proofs.Common.{◌≡◌, flat_map, take}
use Rattle.fib_follow_sized.specs.inner.Counts.{ends_before}
use Rattle.fib_follow_sized.proofs.ends.ends_before.Given as goal

abbrev pub invariant-changed : goal.invariant-changed
invariant-changed l = l.out.items ≡ flat_map (λ x. ends_before l.view x.prefix) (take l.place l.changed)
