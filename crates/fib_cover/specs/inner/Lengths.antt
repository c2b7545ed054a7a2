-- Which lengths the members of a set may have.
use Rattle.std.specs.Prelude.{◌≡◌, Bool, true, false, List, Contains, slice_index_or}
use Rattle.fib_addr.specs.Prefixes.{Prefix}
use Rattle.fib_cover.specs.Covers.{ArePrefixes}

-- each member's length is marked
abbrev pub AreMarked : List Bool → List Prefix → Type 0
AreMarked marks members = (q : Prefix) → Contains members q → slice_index_or marks q.len false ≡ true

-- what stands of the members of a set and the marks beside them
pub record AreMembers (marks : List Bool) (members : List Prefix) : Type 0 where
  pub prefixes : ArePrefixes members
  pub marked : AreMarked marks members
