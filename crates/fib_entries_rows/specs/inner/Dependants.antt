-- What is left of dependants when one goes. No contract of a public call rests on this.
use Rattle.std.specs.Prelude.{◌≢◌, ◌↔◌, List, Contains}
use Rattle.fib_reach.specs.Walks.{AllDiffer}
use Rattle.fib_addr.specs.Prefixes.{Prefix}

-- the same without the prefix, in any order
pub record IsWithout (p : Prefix) (old new : List Prefix) : Type 0 where
  pub gone : Contains new p → ⊥
  pub others : (d : Prefix) → p ≢ d → Contains new d ↔ Contains old d
  pub once : AllDiffer new
