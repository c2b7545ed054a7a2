use Rattle.std.proofs.Common.{take}
use Rattle.fib_entries_rows.proofs.Edging.{AreKeptOf}
use Rattle.fib_entries_rows.proofs.edges.kept_of.Given as goal

abbrev pub invariant-loop-place : goal.invariant-loop-place
invariant-loop-place l = AreKeptOf l.meaning l.order (take l.place l.edges) l.out.items
