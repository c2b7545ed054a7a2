use Rattle.std.proofs.Common.{◌≡◌, length}
use Rattle.fib_rounds.proofs.round.places_for.Given as goal

abbrev pub invariant-loop-place : goal.invariant-loop-place
invariant-loop-place l = length l.places.items ≡ l._place
