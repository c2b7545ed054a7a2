-- When a result is undisturbed by the changes that its pass spanned.
use Rattle.std.specs.Prelude.{◌≡◌, ◌≤◌, ℕ, List, Some, slice_get}
use Rattle.fib_resolve.specs.Resolution.{Trip, way}
use Rattle.fib_resolve.specs.declared.types.Tables.{Tables}
use Rattle.fib_core_results.specs.declared.record.Record.{Record}

-- the packet's way is that one in each version from lo's settled to hi's applied
abbrev pub KeepsWay : List Tables → Record → Trip → Type 0
KeepsWay H r trip = (j : ℕ) (S : Tables) → r.lo.settled ≤ j → j ≤ r.hi.applied → slice_get H j ≡ Some S → way S r.addr r.hash ≡ trip

-- where the packet's way is one and the same in all versions that the pass spanned, the result's end is that way's
abbrev pub IsSteady : List Tables → Record → Type 0
IsSteady H r = (trip : Trip) → KeepsWay H r trip → r.end ≡ trip.end
