-- Lists of which some pairs were given. No contract of a public call rests on this.
use Rattle.std.specs.Prelude.{◌≡◌, ◌+◌, ◌<◌, ℕ, List, Some, count_by}
use Rattle.fib_resolve.specs.declared.types.FibSource.{FibSource}
use Rattle.fib_resolve.specs.declared.types.Path.{Path}
use Rattle.fib_entries_rows.specs.Known.{PathKept, content_of}
use Rattle.fib_entries_rows.specs.inner.Fields.{AreCounted}
use Rattle.fib_entries_rows.specs.inner.Used.{has_content}

-- the users are those that g says and the pairs that are left; what has some has the number that it had
pub record IsLeft (g : List Path → ℕ) (old new : List PathKept) (left : List (FibSource × ℕ)) : Type 0 where
  pub counted : AreCounted new (λ paths. g paths + count_by (has_content old paths) left)
  pub stays : (id : ℕ) (paths : List Path) → 0 < g paths + count_by (has_content old paths) left
      → content_of old id ≡ Some paths → content_of new id ≡ Some paths
