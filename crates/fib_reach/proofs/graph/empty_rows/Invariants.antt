use Rattle.std.proofs.Common.{◌≡◌, [], replicate}
use Rattle.fib_reach.proofs.graph.empty_rows.Given as goal

abbrev pub invariant-loop-node : goal.invariant-loop-node
invariant-loop-node l = l.rows.items ≡ replicate l._node []
