-- When a result is an answer of the versions that its pass spanned.
use Rattle.std.specs.Prelude.{◌≡◌, ◌≤◌, ◌<◌, ℕ, List, Some, length, slice_get, Contains, ◌⊎◌}
use Rattle.fib_resolve.specs.Resolution.{resolve, ends}
use Rattle.fib_resolve.specs.declared.types.Tables.{Tables}
use Rattle.fib_resolve.specs.declared.types.End.TheVariants as answers
use Rattle.fib_core_results.specs.declared.record.Record.{Record}
use Rattle.fib_core_results.specs.declared.record.Version.{Version}

-- the version after that many changes, all of them settled
abbrev pub version_at : ℕ → Version
version_at k = record { settled = k; applied = k }

-- no number is smaller than the other version's
pub record AtLeast (low high : Version) : Type 0 where
  pub settled : low.settled ≤ high.settled
  pub applied : low.applied ≤ high.applied

-- the four numbers are all k
pub record IsAt (k : ℕ) (r : Record) : Type 0 where
  pub lo : r.lo ≡ version_at k
  pub hi : r.hi ≡ version_at k

-- the result's end is one of some version from lo's settled to hi's applied
pub record IsSpanned (H : List Tables) (r : Record) : Type 0 where
  pub version : ℕ
  pub tables : Tables
  pub from : r.lo.settled ≤ version
  pub to : version ≤ r.hi.applied
  pub held : slice_get H version ≡ Some tables
  pub end : Contains (ends tables) r.end

-- Over a history of tables, of which the list's place is the version's number: the window is one of the history; where it is one
-- settled version the end is resolution's over its tables, and else Drop or an end of a version that it spans.
pub record IsRecordOk (H : List Tables) (r : Record) : Type 0 where
  pub order : AtLeast r.lo r.hi
  pub low : r.lo.settled ≤ r.lo.applied
  pub high : r.hi.settled ≤ r.hi.applied
  pub inside : r.hi.applied < length H
  pub quiet : (k : ℕ) (S : Tables) → IsAt k r → slice_get H k ≡ Some S → r.end ≡ resolve S r.addr r.hash
  pub wide : ((k : ℕ) → IsAt k r → ⊥) → (r.end ≡ answers.Drop) ⊎ IsSpanned H r

-- what a pass answers that sees these tables alone, as version k
abbrev pub settled_answer : Tables → ℕ → ℕ → ℕ → Record
settled_answer S k a h = record { addr = a; hash = h; lo = version_at k; hi = version_at k; end = resolve S a h }
