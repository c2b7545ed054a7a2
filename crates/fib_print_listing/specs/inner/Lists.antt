-- Kept lists with the numbers of their users, as the entries of a map. No contract of a public call rests on this.
use Rattle.std.specs.Prelude.{ℕ, ◌++◌, List, [], codes, decimal, map}
use Rattle.std.specs.Borrow.{Bor}
use Rattle.fib_base_interned.specs.Interned.{Kept}
use Rattle.fib_resolve.specs.declared.types.Path.{Path}
use Rattle.fib_resolve.specs.declared.types.Tables.{Tables}
use Rattle.fib_print_listing.specs.Order.{IsOrderedBy, list_before, row_from}
use Rattle.fib_print_listing.specs.PathLists.{same_list, plain_text}
use Rattle.fib_print_listing.specs.inner.Added.{Adds}

abbrev pub Counted : Type 0
Counted = Bor (List Path) × ℕ

abbrev pub paths_in : Bor (List Path) → List Path
paths_in b = b.now

abbrev pub list_at : Counted → List Path
list_at e = e.0.now

-- a kept list and how many use it
abbrev pub counted : Kept (List Path) → List Path × ℕ
counted k = (k.content, k.users)

-- a map to which these lists were added in turn
abbrev pub AreCounts : List (Kept (List Path)) → List Counted → Type 0
AreCounts ks es = Adds same_list paths_in (map counted ks) [] es

-- each list stands before those behind it
abbrev pub AreListed : List Counted → Type 0
AreListed es = IsOrderedBy list_before (map list_at es)

-- users N: PATHS
abbrev pub line_text : Tables → ℕ → List Path → List ℕ
line_text S n ps = codes "users " ++ decimal n ++ codes ": " ++ row_from (codes ", ") 0 (map (plain_text S) ps) ++ codes "\n"

-- the line of an entry
abbrev pub entry_line : Tables → Counted → List ℕ
entry_line S e = line_text S e.1 (list_at e)
