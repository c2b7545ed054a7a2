-- What is known of an entry.
use Rattle.std.specs.Prelude.{ℕ, Bool, List}
use Rattle.fib_addr.specs.Prefixes.{Prefix}
use Rattle.fib_resolve.specs.declared.aims.Marked.{Marked}
use Rattle.fib_resolve.specs.declared.types.FibSource.{FibSource}

-- its sources with the numbers of their lists, the best first; for each path of the chosen list whether it is looped, whether its need is
-- met, and what it is for; the entries with an edge to it; a number that falls along each edge that isn't looped
pub record Row : Type 0 where
  pub prefix : Prefix
  pub pairs : List (FibSource × ℕ)
  pub looped : List Bool
  pub met : List Bool
  pub marked : List Marked
  pub dependants : List Prefix
  pub rank : ℕ
