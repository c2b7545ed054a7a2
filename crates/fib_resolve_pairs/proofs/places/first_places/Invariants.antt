use Rattle.std.proofs.Common.{drop}
use Rattle.fib_resolve_pairs.specs.inner.Places.{ArePlaces}
use Rattle.fib_resolve_pairs.proofs.places.first_places.Given as goal

abbrev pub invariant-loop-i : goal.invariant-loop-i
invariant-loop-i g l = ArePlaces g.T.PartialEq.eq l.i (drop l.i l.items) l.places
