use Rattle.std.proofs.Common.{[], take}
use Rattle.fib_follow_looked.specs.inner.Adding.{AddsEach}
use Rattle.fib_follow_looked.specs.inner.Turning.{is_turn}
use Rattle.fib_follow_looked.proofs.shorts.that_turn.Given as goal

abbrev pub invariant-turned : goal.invariant-turned
invariant-turned l = AddsEach (is_turn l.how) (take l.place l.turned) [] l.set
