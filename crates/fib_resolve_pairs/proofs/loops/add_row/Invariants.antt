use Rattle.std.proofs.Common.{◌≡◌, ◌++◌, take, map}
use Rattle.std.specs.Prelude.{filter_map}
use Rattle.fib_resolve_pairs.specs.inner.Edges.{goal_number}
use Rattle.fib_resolve_pairs.proofs.loops.add_row.Given as goal

abbrev pub invariant-loop-p : goal.invariant-loop-p
invariant-loop-p l = l.out.items ≡ l.fn.out.items ++ map (λ to. (l.from, to)) (filter_map (λ p. goal_number l.known l.e p.kind) (take l.p-index l.p-items))
