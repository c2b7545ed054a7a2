-- What an edit changes, what a change touches, and which entries get another rank.
use Rattle.std.specs.Prelude.{◌≡◌, ◌≢◌, ◌↔◌, ◌<◌, ◌≤◌, ◌^◌, ◌-◌, true, ℕ, List, map, min, Contains}
use Rattle.fib_reach.specs.Walks.{AllDiffer}
use Rattle.fib_addr.specs.Prefixes.{Prefix}
use Rattle.fib_resolve.specs.Sizes.{size}
use Rattle.fib_resolve.specs.Touched.{is_touched}
use Rattle.fib_resolve.specs.declared.types.Tables.{Tables}
use Rattle.fib_resolve_changes.specs.Differ.{Differ}
use Rattle.fib_resolve_changes.specs.declared.change.Change.{Change}
use Rattle.fib_entries_rows.specs.Known.{Known, StandsFor, rank_of}
use Rattle.fib_entries_rows.specs.Rows.{Row}
use Rattle.fib_entries_rows.specs.declared.changes.Followed.{Followed}
use Rattle.fib_entries_rows.specs.declared.changes.Moved.{Moved}
use Rattle.fib_entries_rows.specs.declared.changes.FollowError.{FollowError}
use Rattle.fib_entries_rows.specs.declared.changes.FollowError.TheVariants as errors

-- each touched prefix, once
pub record AreTouched (S T : Tables) (list : List Prefix) : Type 0 where
  pub once : AllDiffer list
  pub touched : (e : Prefix) → Contains list e ↔ (is_touched S T e ≡ true)

abbrev pub prefix_moved : Moved → Prefix
prefix_moved m = m.prefix

-- each prefix that has another rank, once, with the rank that it had; a prefix that is no entry has rank 0
pub record AreMoved (old new : List Row) (list : List Moved) : Type 0 where
  pub once : AllDiffer (map prefix_moved list)
  pub real : (m : Moved) → Contains list m → (m.rank ≡ rank_of old m.prefix) × (rank_of new m.prefix ≢ m.rank)
  pub found : (e : Prefix) → rank_of new e ≢ rank_of old e → Contains (map prefix_moved list) e

-- the size is above the most that is allowed, and is said; want of memory says nothing
abbrev pub IsTooMany : ℕ → ℕ → FollowError → Type 0
IsTooMany size most (errors.TooMany n) = (most < size) × (n ≡ min size (2 ^ 32 - 1))
IsTooMany size most errors.Memory = Unit {0}

-- Entries follow a change of the tables S to T: they stand for T, which takes at most so many objects, and what the change touches and whose rank moved
-- is told.
pub record IsFollowed (v w : Known) (S T : Tables) (most : ℕ) (f : Followed) : Type 0 where
  pub stands : StandsFor w T
  pub touched : AreTouched S T f.touched
  pub moved : AreMoved v.rows w.rows f.moved
  pub fits : size T ≤ most

-- this holds of any tables for which the entries stood, and which differ from T at most where the changes say
abbrev pub FromBefore : Known → List Change → Tables → (Tables → Type 0) → Type 0
FromBefore v changes T P = (S : Tables) → StandsFor v S → Differ changes S T → P S
