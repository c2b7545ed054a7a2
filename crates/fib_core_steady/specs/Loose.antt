-- Buckets whose word may change.
use Rattle.std.specs.Prelude.{◌≡◌, ℕ, ◌%◌, List, Option, Some}
use Rattle.fib_addr.specs.Prefixes.{Prefix}
use Rattle.fib_resolve.specs.declared.types.Tables.{Tables}
use Rattle.fib_union.specs.Unions.{owner}
use Rattle.fib_resolve.specs.declared.aims.Aim.{Aim}
use Rattle.fib_core_steady.specs.Aims.{IsLasting, WantsAlike}

-- the cell is no bucket of which all versions want the same
abbrev pub IsLoose : List Tables → (Prefix → Option ℕ) → ℕ → Type 0
IsLoose J balances k =
    (e : Prefix) (m : Aim) → IsLasting J e → balances e ≡ Some (owner k) → WantsAlike J e (k % 16) m → ⊥
