-- Running passes whose packet's way is one and the same in all versions that they span.
use Rattle.std.specs.Prelude.{◌≡◌, ℕ, List, [], ◌∷◌, Contains, Option, Some, slice_get, slice_index, drop}
use Rattle.fib_addr.specs.Prefixes.{Prefix}
use Rattle.fib_resolve.specs.Resolution.{Step, Trip, way}
use Rattle.fib_resolve.specs.declared.types.Tables.{Tables}
use Rattle.fib_core_results.specs.Steady.{IsSteady}
use Rattle.fib_core.specs.Walk.{Place, ply, balance, adjacency, ended, adjacency_end}
use Rattle.fib_core.specs.Trails.{Load, place, Follows, Trail, result_of}

-- the versions from that number on
abbrev pub since : List Tables → ℕ → List Tables
since H from = drop from H

-- the packet's way is that one in each of these versions
abbrev pub WayAlike : List Tables → ℕ → ℕ → Trip → Type 0
WayAlike J a h trip = (S : Tables) → Contains J S → way S a h ≡ trip

-- the pass stands where that way leads: on a ply, on the balance of the way's entry at its place, or on an adjacency with
-- the way's end; or it has that end
abbrev pub IsOnWay : (Prefix → Option ℕ) → List ℕ → Trip → Place → Type 0
IsOnWay balances cells trip (ply o d) = Unit {0}
IsOnWay balances cells trip (balance o n) =
    (step : Step) × (slice_get trip.steps n ≡ Some step) × (balances step.entry ≡ Some o)
IsOnWay balances cells trip (adjacency o read) = adjacency_end cells o ≡ trip.end
IsOnWay balances cells trip (ended e) = e ≡ trip.end

-- third point: of a running pass, which knew that version as the settled one at its first load
abbrev pub IsUndisturbed : List Tables → (Prefix → Option ℕ) → List ℕ → ℕ → List Load → Type 0
IsUndisturbed H balances cells lo loads =
    (a h : ℕ) (trip : Trip) → Follows a h loads → WayAlike (since H lo) a h trip
    → IsOnWay balances cells trip (place loads)

-- before the first change: no cell is stored while a worker is out, so each load is what its cell holds
abbrev pub IsCurrent : List ℕ → List Load → Type 0
IsCurrent cells [] = Unit {0}
IsCurrent cells (l ∷ t) = (slice_index cells l.0 ≡ l.1) × IsCurrent cells t

-- fourth point: a finished trail is steady
abbrev pub IsSteadyTrail : List Tables → Trail → Type 0
IsSteadyTrail H t = (a h : ℕ) → Follows a h t.loads → IsSteady H (result_of t a h)
