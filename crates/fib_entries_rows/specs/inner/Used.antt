-- How often rows name lists, by the rows alone. No contract of a public call rests on this.
use Rattle.std.specs.Prelude.{◌≡◌, ℕ, Bool, List, map, flat_map, count_by}
use Rattle.fib_addr.specs.Prefixes.{Prefix}
use Rattle.fib_cover.specs.Covers.{IsAscending}
use Rattle.fib_resolve.specs.declared.types.FibSource.{FibSource}
use Rattle.fib_resolve.specs.declared.types.Path.{Path}
use Rattle.fib_entries_rows.specs.Known.{PathKept, prefix_of, content_of}
use Rattle.fib_entries_rows.specs.Rows.{Row}
use Rattle.fib_entries_rows.specs.inner.Building.{AreHeld}
use Rattle.fib_entries_rows.specs.inner.Compare.{is_content}
use Rattle.fib_entries_rows.specs.inner.Fields.{AreCounted}

-- the number that stands with a source is that of the list with these paths
abbrev pub has_content : List PathKept → List Path → FibSource × ℕ → Bool
has_content lists paths q = is_content (content_of lists q.1) paths

abbrev pub pairs_of : Row → List (FibSource × ℕ)
pairs_of r = r.pairs

-- how often rows name the list with these paths
abbrev pub named_count : List PathKept → List Row → List Path → ℕ
named_count lists rows paths = count_by (has_content lists paths) (flat_map pairs_of rows)

-- each list that a row names is kept, with as many users as rows name it, and the set has the rows' prefixes, in order
pub record AreUsed (rows : List Row) (lists : List PathKept) (order : List Prefix) : Type 0 where
  pub held : AreHeld rows lists
  pub used : AreCounted lists (named_count lists rows)
  pub ordered : IsAscending (map prefix_of rows)
  pub same : order ≡ map prefix_of rows
