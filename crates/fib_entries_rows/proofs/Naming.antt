-- A number whose content is known is kept.
use Rattle.std.proofs.Common.{◌≡◌, List, Option, Some, None, refl}
use Rattle.std.specs.Prelude.{IsSome, option_map}
use Rattle.fib_resolve.specs.declared.types.Path.{Path}
use Rattle.fib_base_interned.proofs.Finding.{none_some}
use Rattle.fib_entries_rows.specs.Known.{PathKept}

pub some_content : (o : Option PathKept) (paths : List Path) → option_map (λ k. k.content) o ≡ Some paths → IsSome o
some_content None paths h = absurd (none_some paths h)
some_content (Some k) paths h = refl
