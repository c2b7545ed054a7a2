use Rattle.std.proofs.Common.{take}
use Rattle.fib_entries_rows.specs.inner.Edges.{IsTurned}
use Rattle.fib_entries_rows.proofs.groups.turned.Given as goal

abbrev pub invariant-loop-from : goal.invariant-loop-from
invariant-loop-from l = IsTurned l.nodes (take l.from-index l.edges) l.graph
