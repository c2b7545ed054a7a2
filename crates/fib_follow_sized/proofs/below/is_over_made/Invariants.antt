use Rattle.std.proofs.Common.{map}
use Rattle.fib_follow_view.specs.Views.{anew_prefix}
use Rattle.fib_follow_view.specs.inner.Told.{entry_in}
use Rattle.fib_follow_sized.proofs.Walking.{Walked}
use Rattle.fib_follow_sized.proofs.below.is_over_made.Given as goal

abbrev pub invariant-changed : goal.invariant-changed
invariant-changed l = Walked (map anew_prefix l.changed) l.q (entry_in l.view) l.place
