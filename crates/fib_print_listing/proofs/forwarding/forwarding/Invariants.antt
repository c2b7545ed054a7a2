use Rattle.fib_resolve.specs.declared.types.Tables.{Tables}
use Rattle.fib_entries_rows.specs.Known.{StandsFor}
use Rattle.fib_print_listing.specs.inner.Forwards.{AreSoFar}
use Rattle.fib_print_listing.proofs.forwarding.forwarding.Given as goal

abbrev pub invariant-loop-x : goal.invariant-loop-x
invariant-loop-x l = (S : Tables) → StandsFor l.entries S → AreSoFar S l.x-items l.x-index l.found.keys
