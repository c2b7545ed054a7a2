use Rattle.std.proofs.Common.{◌≡◌, flat_map, take}
use Rattle.fib_follow_sized.specs.inner.Counts.{moving}
use Rattle.fib_follow_sized.proofs.moved.moved.Given as goal

abbrev pub invariant-changed : goal.invariant-changed
invariant-changed l = l.out.items ≡ flat_map (moving l.view) (take l.place l.changed)
