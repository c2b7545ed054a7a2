-- A change of one route that touches a part of the prefixes to which nothing else leads: its own, which is a leaf, and the hosts of next
-- hops that no other route has. No contract of a public call rests on this.
use Rattle.std.specs.Prelude.{◌≡◌, ◌↔◌, ◌<◌, ◌^◌, ◌-◌, ◌&&◌, ◌||◌, ◌==◌, ℕ, Bool, true, false, List, map, min, Contains, Some}
use Rattle.std.specs.List.{list_any}
use Rattle.fib_reach.specs.Walks.{AllDiffer}
use Rattle.fib_addr.specs.Prefixes.{Prefix, same_prefix}
use Rattle.fib_cover.specs.Covers.{IsAscending}
use Rattle.fib_resolve.specs.Pairs.{entries}
use Rattle.fib_resolve.specs.Loops.{targets}
use Rattle.fib_resolve.specs.Sizes.{size}
use Rattle.fib_resolve.specs.Tables.{IsSound}
use Rattle.fib_resolve.specs.Touched.{is_touched}
use Rattle.fib_resolve.specs.declared.types.Path.{Path}
use Rattle.fib_resolve.specs.declared.types.Tables.{Tables}
use Rattle.fib_resolve_changes.specs.Sources.{SameEntry}
use Rattle.fib_entries_rows.specs.Known.{Known, content_of, prefix_of, rank_of, IsRow, holders}
use Rattle.fib_entries_rows.specs.Rows.{Row}
use Rattle.fib_entries_rows.specs.inner.Fields.{AreCounted}

-- the prefix, and the hosts of these addresses
abbrev pub in_part : Prefix → List ℕ → Prefix → Bool
in_part p late e = same_prefix p e || ((e.len == 32) && list_any (λ b. b == e.bits) late)

-- outside the part nothing is touched
pub record IsQuietEdit (S T : Tables) (part : Prefix → Bool) : Type 0 where
  pub after : IsSound T
  pub quiet : (e : Prefix) → part e ≡ false → is_touched S T e ≡ false
  pub entry : (e : Prefix) → part e ≡ false → SameEntry S T e

-- and nothing leads into it
pub record IsPartEdit (S T : Tables) (part : Prefix → Bool) : Type 0 where
  pub beside : IsQuietEdit S T part
  pub closed : (d t : Prefix) → part d ≡ false → Contains (targets T d) t → part t ≡ false

-- the same row, but that prefixes of the part may have come to its dependants or gone from them
pub record IsButForPart (part : Prefix → Bool) (r s : Row) : Type 0 where
  pub prefix : s.prefix ≡ r.prefix
  pub pairs : s.pairs ≡ r.pairs
  pub looped : s.looped ≡ r.looped
  pub met : s.met ≡ r.met
  pub marked : s.marked ≡ r.marked
  pub rank : s.rank ≡ r.rank
  pub others : (d : Prefix) → part d ≡ false → Contains s.dependants d ↔ Contains r.dependants d
  pub once : AllDiffer r.dependants → AllDiffer s.dependants

-- what is made of what was known, whatever the ranks of the part are
pub record IsPartKept (v w : Known) (T : Tables) (part : Prefix → Bool) : Type 0 where
  pub ordered : IsAscending (map prefix_of w.rows)
  pub same : (e : Prefix) → part e ≡ false → Contains (map prefix_of v.rows) e ↔ Contains (map prefix_of w.rows) e
  pub rows : (s : Row) → Contains w.rows s → part s.prefix ≡ false
      → (r : Row) × Contains v.rows r × IsButForPart part r s
      × ((d : Prefix) → part d ≡ true → Contains s.dependants d ↔ Contains (targets T d) s.prefix)
  pub there : (e : Prefix) → part e ≡ true → Contains (map prefix_of w.rows) e ↔ Contains (entries T) e
  pub own : (s : Row) → Contains w.rows s → part s.prefix ≡ true → IsRow w.lists T s
  pub counted : AreCounted w.lists (holders T)
  pub stays : (id : ℕ) (paths : List Path) → 0 < holders T paths → content_of v.lists id ≡ Some paths → content_of w.lists id ≡ Some paths
  pub objects : w.objects ≡ min (size T) (2 ^ 32 - 1)

-- and they fall along its edges
pub record IsPartMade (v w : Known) (T : Tables) (part : Prefix → Bool) : Type 0 where
  pub kept : IsPartKept v w T part
  pub rank : (e t : Prefix) → part e ≡ true → Contains (targets T e) t → rank_of w.rows t < rank_of w.rows e
