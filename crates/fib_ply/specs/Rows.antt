-- The rows of a prefix table: its prefixes, each once, with their objects.
use Rattle.std.specs.Prelude.{ℕ, ◌+◌, ◌*◌, List, [], ◌∷◌, Option, Some, None, if◌then◌else◌}
use Rattle.std.specs.List.{AllByRecursion}
use Rattle.fib_addr.specs.Prefixes.{Prefix, IsPrefix, same_prefix}
use Rattle.fib_ply.specs.declared.rows.Row.{Row}

-- the object of the row of that prefix
abbrev pub held : List Row → Prefix → Option ℕ
held [] e = None
held (r ∷ rs) e = if same_prefix r.prefix e then Some r.object else held rs e

abbrev pub ArePrefixes : List Row → Type 0
ArePrefixes rows = AllByRecursion (λ r. IsPrefix r.prefix) rows

-- by bits, then by length
abbrev pub rank : Row → ℕ
rank r = 64 * r.prefix.bits + r.prefix.len
