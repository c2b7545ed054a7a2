use Rattle.std.proofs.Common.{[], flat_map, take}
use Rattle.std.specs.Prelude.{option_to_list}
use Rattle.fib_follow_told.specs.inner.Gathered.{Gathers}
use Rattle.fib_follow_told.proofs.seen.targets.Given as goal

abbrev pub invariant-goals : goal.invariant-goals
invariant-goals l = Gathers (flat_map option_to_list (take l.place l.goals)) [] l.seen
