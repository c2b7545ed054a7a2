-- Loops of a path, where the edges on cycles are known. No contract of a public call rests on this.
use Rattle.std.specs.Prelude.{Bool, false, List}
use Rattle.fib_addr.specs.Prefixes.{Prefix, host}
use Rattle.fib_resolve.specs.declared.types.PathKind.{PathKind}
use Rattle.fib_resolve.specs.declared.types.PathKind.TheVariants as kinds
use Rattle.fib_entries_rows.specs.inner.Looping.{has_ends}

-- whether a path of the prefix is looped, where these edges are on cycles
abbrev pub kind_loops : List (Prefix × Prefix) → Prefix → PathKind → Bool
kind_loops edges p (kinds.Recursive a) = has_ends edges p (host a)
kind_loops edges p kinds.Drop = false
kind_loops edges p kinds.Local = false
kind_loops edges p (kinds.Attached i) = false
kind_loops edges p (kinds.Hop a i) = false
kind_loops edges p kinds.Cover = false
