use Rattle.std.proofs.Common.{◌≡◌, map, take}
use Rattle.fib_follow_plan.specs.Made.{listed_of}
use Rattle.fib_follow_plan.proofs.lists.all_listed.Given as goal

abbrev pub invariant-pairs : goal.invariant-pairs
invariant-pairs l = l.out ≡ map listed_of (take l.place l.pairs)
