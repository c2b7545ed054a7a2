-- A plan that suits rows, and what it makes of them, of the lists that they name and of the set of their prefixes.
use Rattle.std.specs.Prelude.{◌≡◌, ◌⊎◌, ◌<◌, ℕ, List, Some, Contains, map}
use Rattle.std.specs.List.{AllZip}
use Rattle.fib_reach.specs.Walks.{AllDiffer}
use Rattle.fib_addr.specs.Prefixes.{Prefix}
use Rattle.fib_resolve.specs.declared.types.FibSource.{FibSource}
use Rattle.fib_resolve.specs.declared.types.Path.{Path}
use Rattle.fib_entries_rows.specs.Known.{PathKept, content_of, prefix_of}
use Rattle.fib_entries_rows.specs.Rows.{Row}
use Rattle.fib_entries_rows.specs.inner.Used.{AreUsed, named_count}
use Rattle.fib_follow_write.specs.Written.{AreNew, IsSourced, IsUnled, blank, changed, led, marked, paired_prefix, sourced}
use Rattle.fib_follow_write.specs.declared.plan.Sourced.{Sourced}
use Rattle.fib_follow_write.specs.declared.writing.Plan.{Plan}

-- what comes has no row yet, who gets other lists has a row or comes, and doesn't go, and edges that come aren't there yet
pub record IsPlan (rows : List Row) (plan : Plan) : Type 0 where
  pub came_once : AllDiffer plan.came
  pub came_new : (p : Prefix) → Contains plan.came p → Contains (map prefix_of rows) p → ⊥
  pub paired_once : AllDiffer (map paired_prefix plan.paired)
  pub paired_there : (p : Prefix) → Contains (map paired_prefix plan.paired) p → Contains (map prefix_of rows) p ⊎ Contains plan.came p
  pub paired_stay : (p : Prefix) → Contains (map paired_prefix plan.paired) p → Contains plan.gone p → ⊥
  pub gone_once : AllDiffer plan.gone
  pub edges_new : AreNew rows plan.edges_in

-- a row of before, or the blank one of a prefix that comes
abbrev pub IsBase : List Row → Plan → Row → Type 0
IsBase rows plan r = Contains rows r ⊎ (Contains plan.came r.prefix × (r ≡ blank r.prefix))

-- with the dependants that come, the pairs, and the marks
abbrev pub renewed : Plan → List Sourced → Row → Row
renewed plan entries r = changed marked plan.marks (changed sourced entries (changed led plan.edges_in r))

-- the rows are those of before and those that come, without those that go, each with what the plan has for it and without the
-- dependants whose edges go; each list that a row names is kept under the number that it had, with as many users as rows name it;
-- the set has the rows' prefixes
pub record IsWritten (plan : Plan) (old new : List Row) (lists later : List PathKept) (order : List Prefix) : Type 0 where
  pub entries : List Sourced
  pub numbered : AllZip (IsSourced later) plan.paired entries
  pub rows : (s : Row) → Contains new s → (Contains plan.gone s.prefix → ⊥) × (r : Row) × IsBase old plan r
      × IsUnled plan.edges_out (renewed plan entries r) s
  pub found : (r : Row) → IsBase old plan r → (Contains plan.gone r.prefix → ⊥) → (s : Row) × Contains new s
      × IsUnled plan.edges_out (renewed plan entries r) s
  pub stays : (id : ℕ) (paths : List Path) → 0 < named_count later new paths → content_of lists id ≡ Some paths
      → content_of later id ≡ Some paths
  -- a row that gets no other pairs and stays names the lists that it named
  pub names : (r : Row) (q : FibSource × ℕ) → Contains old r → Contains r.pairs q → (Contains (map paired_prefix plan.paired) r.prefix → ⊥)
      → (Contains plan.gone r.prefix → ⊥) → content_of later q.1 ≡ content_of lists q.1
  pub used : AreUsed new later order
