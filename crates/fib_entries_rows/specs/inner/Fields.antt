-- How often lists are used. No contract of a public call rests on this.
use Rattle.std.specs.Prelude.{◌≡◌, ◌<◌, ℕ, List, Contains, Some}
use Rattle.fib_entries_rows.specs.Known.{PathKept, content_of}
use Rattle.fib_resolve.specs.declared.types.Path.{Path}
use Rattle.fib_base_interned.specs.Interned.{AreInterned}

-- the users of each kept list are as many as the count says, and each list that has some is kept
pub record AreCounted (lists : List PathKept) (f : List Path → ℕ) : Type 0 where
  pub apart : AreInterned lists
  pub users : (k : PathKept) → Contains lists k → k.users ≡ f k.content
  pub found : (paths : List Path) → 0 < f paths → (id : ℕ) × (content_of lists id ≡ Some paths)
