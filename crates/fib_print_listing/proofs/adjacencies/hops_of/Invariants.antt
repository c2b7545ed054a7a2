use Rattle.std.proofs.Common.{[], take, map}
use Rattle.std.specs.Prelude.{flat_map}
use Rattle.fib_resolve.specs.declared.types.Tables.{Tables}
use Rattle.fib_entries_rows.specs.Known.{StandsFor, prefix_of}
use Rattle.fib_print_listing.specs.inner.Hops.{AddsHops, hops_at}
use Rattle.fib_print_listing.proofs.adjacencies.hops_of.Given as goal

abbrev pub invariant-loop-place : goal.invariant-loop-place
invariant-loop-place l = (S : Tables) → StandsFor l.entries S → AddsHops (flat_map (hops_at S) (take l.place (map prefix_of l.entries.rows))) [] l.hops.entries
