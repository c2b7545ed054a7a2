use Rattle.std.proofs.Common.{◌≡◌, take, map}
use Rattle.fib_entries_rows.specs.Known.{prefix_of}
use Rattle.fib_print_listing.specs.inner.Forwards.{ranked_in}
use Rattle.fib_print_listing.proofs.forwarding.ranks_of.Given as goal

abbrev pub invariant-loop-place : goal.invariant-loop-place
invariant-loop-place l = l.ranks.items ≡ map (ranked_in l.entries.rows) (take l.place (map prefix_of l.entries.rows))
