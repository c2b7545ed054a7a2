-- The entries by their numbers: the places of the list of entries.
use Rattle.std.specs.Prelude.{ℕ, position, Option, Some, None}
use Rattle.fib_addr.specs.Prefixes.{Prefix, host, same_prefix}
use Rattle.fib_resolve.specs.Pairs.{entries, cover}
use Rattle.fib_resolve.specs.declared.types.PathKind.{PathKind}
use Rattle.fib_resolve.specs.declared.types.PathKind.TheVariants as kinds
use Rattle.fib_resolve.specs.declared.types.Tables.{Tables}

-- the number of an entry
unfoldable pub number_in : Tables → Prefix → Option ℕ
number_in S p = position (same_prefix p) (entries S)

-- the entry to which a path leads
abbrev pub goal_of : Tables → Prefix → PathKind → Option Prefix
goal_of S e (kinds.Recursive a) = Some (host a)
goal_of S e kinds.Cover = Some (cover S e.bits)
goal_of S e kinds.Drop = None
goal_of S e kinds.Local = None
goal_of S e (kinds.Attached i) = None
goal_of S e (kinds.Hop a i) = None
