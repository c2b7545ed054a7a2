-- What is compared of two rows. No contract of a public call rests on this.
use Rattle.std.specs.Prelude.{◌≡◌, ◌&&◌, ◌==◌, [], ◌∷◌, if◌then◌else◌, true, false, ℕ, Bool, List, Contains, Option, Some, None, IsSome, is_none}
use Rattle.std.specs.List.{list_any, list_all}
use Rattle.std.specs.Cmp.Lexicographic.{pointwise}
use Rattle.fib_resolve.specs.Keys.{same_source, same_path}
use Rattle.fib_resolve.specs.declared.types.Path.{Path}
use Rattle.fib_resolve.specs.declared.types.FibSource.{FibSource}
use Rattle.fib_base_interned.specs.Interned.{kept_of}
use Rattle.fib_addr.specs.Prefixes.{Prefix}
use Rattle.fib_resolve.specs.Touched.{is_touched}
use Rattle.fib_resolve.specs.declared.types.Tables.{Tables}
use Rattle.fib_entries_rows.specs.Known.{PathKept, content_of, row_of, rank_of}
use Rattle.fib_entries_rows.specs.Rows.{Row}
use Rattle.fib_entries_rows.specs.declared.changes.Moved.{Moved}

-- each of these lists is kept
abbrev pub AreKept : List PathKept → List (FibSource × ℕ) → Type 0
AreKept lists held = (p : FibSource × ℕ) → Contains held p → IsSome (kept_of lists p.1)

abbrev pub is_content : Option (List Path) → List Path → Bool
is_content None paths = false
is_content (Some ps) paths = pointwise same_path ps paths

-- the source with that list
abbrev pub is_that : List PathKept → FibSource → List Path → FibSource × ℕ → Bool
is_that lists source paths p = same_source p.0 source && is_content (content_of lists p.1) paths

abbrev pub has_that : List PathKept → List (FibSource × ℕ) → FibSource → Option (List Path) → Bool
has_that lists held source None = false
has_that lists held source (Some paths) = list_any (is_that lists source paths) held

-- each pair of the first is one of the second
abbrev pub all_there : List PathKept → List (FibSource × ℕ) → List PathKept → List (FibSource × ℕ) → Bool
all_there lists held others there = list_all (λ p. has_that others there p.0 (content_of lists p.1)) held

-- both have the same pairs, and their paths are marked alike
pub record AreAlike (lists others : List PathKept) (r s : Row) : Type 0 where
  pub there : all_there lists r.pairs others s.pairs ≡ true
  pub back : all_there others s.pairs lists r.pairs ≡ true
  pub looped : r.looped ≡ s.looped
  pub met : r.met ≡ s.met
  pub marked : r.marked ≡ s.marked

-- a touched prefix that was no entry before
abbrev pub is_new : List Row → Tables → Tables → Prefix → Bool
is_new rows S T e = is_none (row_of rows e) && is_touched S T e

-- the prefix with the rank that it had, where it has another
abbrev pub moved_one : List Row → List Row → Prefix → List Moved
moved_one old new e = if rank_of old e == rank_of new e then [] else record { prefix = e; rank = rank_of old e } ∷ []

-- the same where it was no entry
abbrev pub moved_new : List Row → List Row → Prefix → List Moved
moved_new old new e = if is_none (row_of old e) then moved_one old new e else []
