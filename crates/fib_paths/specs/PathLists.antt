-- Interned path-lists: `fib_base_interned`'s words at lists of paths.
use Rattle.std.specs.Prelude.{◌≡◌, ◌<◌, ℕ, List, Contains}
use Rattle.fib_resolve.specs.declared.types.Path.{Path}
use Rattle.fib_base_interned.specs.Interned.{Kept}

abbrev pub KeptList : Type 0
KeptList = Kept (List Path)

-- the list with that content has fewer users than the number
pub record IsUsedLess (lists : List (Kept (List Path))) (content : List Path) (most : ℕ) : Type 0 where
  pub less : (k : Kept (List Path)) → Contains lists k → k.content ≡ content → k.users < most
