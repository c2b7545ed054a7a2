use Rattle.std.proofs.Common.{◌≡◌, map, take}
use Rattle.fib_entries_rows.specs.Known.{prefix_of}
use Rattle.fib_urpf.proofs.queueing.entries_of.Given as goal

abbrev pub invariant-loop-place : goal.invariant-loop-place
invariant-loop-place l = l.listed.items ≡ take l.place (map prefix_of l.entries.rows)
