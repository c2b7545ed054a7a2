use Rattle.std.proofs.Common.{take}
use Rattle.fib_entries_rows.specs.inner.Looping.{AddsEdges}
use Rattle.fib_follow_part.specs.inner.Searched.{AddsOuts}
use Rattle.fib_follow_part.proofs.edges.add_edges.Given as goal

abbrev pub invariant-targets : goal.invariant-targets
invariant-targets l = AddsEdges l.seen l.from (take l.place l.targets) l.fn.edges.items l.edges.items
    × AddsOuts l.seen l.from (take l.place l.targets) l.fn.out.items l.out.items
