-- Kept vectors of paths, seen as lists. No contract of a public call rests on this.
use Rattle.std.specs.Prelude.{◌≡◌, ℕ, List, Some, Vec}
use Rattle.std.specs.Global.{Global}
use Rattle.fib_resolve.specs.declared.types.Path.{Path}
use Rattle.fib_base_interned.specs.Interned.{Kept, kept_of}

abbrev pub listed : Kept (Vec Path Global) → Kept (List Path)
listed k = record { id = k.id; content = k.content.items; users = k.users }

-- one content has one number
abbrev pub AreApart : List (Kept (Vec Path Global)) → Type 0
AreApart rows =
    (a b : ℕ) (k l : Kept (Vec Path Global)) → kept_of rows a ≡ Some k → kept_of rows b ≡ Some l → k.content.items ≡ l.content.items → a ≡ b
