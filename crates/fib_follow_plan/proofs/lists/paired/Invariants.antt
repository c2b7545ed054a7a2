use Rattle.std.proofs.Common.{◌≡◌, flat_map, take}
use Rattle.fib_follow_plan.specs.Made.{has_pairs, only, paired_of}
use Rattle.fib_follow_plan.proofs.lists.paired.Given as goal

abbrev pub invariant-changed : goal.invariant-changed
invariant-changed l = l.out ≡ flat_map (λ x. only (has_pairs x) (paired_of x)) (take l.place l.changed)
