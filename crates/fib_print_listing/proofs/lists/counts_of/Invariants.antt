use Rattle.std.proofs.Common.{take}
use Rattle.fib_print_listing.specs.inner.Lists.{AreCounts}
use Rattle.fib_print_listing.proofs.lists.counts_of.Given as goal

abbrev pub invariant-loop-place : goal.invariant-loop-place
invariant-loop-place l = AreCounts (take l.place l.lists) l.counts.entries
