use Rattle.std.proofs.Common.{◌≡◌, ◌++◌, flat_map, take}
use Rattle.std.specs.Prelude.{option_to_list}
use Rattle.fib_follow_part.proofs.seen.push_goals.Given as goal

abbrev pub invariant-goals : goal.invariant-goals
invariant-goals l = l.out.items ≡ l.fn.out.items ++ flat_map option_to_list (take l.place l.goals)
