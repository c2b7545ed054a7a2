-- The sets that are kept of prefixes.
use Rattle.std.specs.Prelude.{ℕ, Bool, false, List, Option, Some, None}
use Rattle.std.specs.Map.{lookup}
use Rattle.fib_addr.specs.Prefixes.{Prefix, same_prefix}
use Rattle.fib_urpf.specs.Interfaces.{has}
use Rattle.fib_urpf.specs.declared.interfaces.Interfaces.{Interfaces}

-- prefixes with their sets, each once, and for how many more there is room
pub record Held : Type 0 where
  pub rows : List (Prefix × Interfaces)
  pub spare : ℕ

abbrev pub set_of : List (Prefix × Interfaces) → Prefix → Option Interfaces
set_of rows e = lookup (same_prefix e) rows

abbrev pub has_by : Option Interfaces → ℕ → Bool
has_by None i = false
has_by (Some s) i = has s i

-- the interface is kept of the prefix
abbrev pub kept_in : List (Prefix × Interfaces) → ℕ → Prefix → Bool
kept_in rows i e = has_by (set_of rows e) i
