use Rattle.std.proofs.Common.{◌≡◌, take, map}
use Rattle.fib_resolve_pairs.specs.inner.Edges.{next_numbers, edges_from}
use Rattle.fib_resolve_pairs.proofs.loops.edges.Given as goal

abbrev pub invariant-loop-i : goal.invariant-loop-i
invariant-loop-i l = l.out.items ≡ edges_from 0 (map (next_numbers l.known) (take l.i l.e-items))
