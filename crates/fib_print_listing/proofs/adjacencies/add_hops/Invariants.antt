use Rattle.std.proofs.Common.{take}
use Rattle.std.specs.Prelude.{flat_map}
use Rattle.fib_print_listing.specs.inner.Hops.{AddsHops, mark_hops}
use Rattle.fib_print_listing.proofs.adjacencies.add_hops.Given as goal

abbrev pub invariant-loop-mark : goal.invariant-loop-mark
invariant-loop-mark l = AddsHops (flat_map mark_hops (take l.mark-index l.marks)) l.initial.hops.entries l.hops.entries
