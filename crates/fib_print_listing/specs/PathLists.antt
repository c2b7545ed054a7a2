-- show fib path-lists: a line for each list that a pair has.
use Rattle.std.specs.Prelude.{ℕ, ◌++◌, List, Bool, None, codes, decimal, count_by, flat_map, map}
use Rattle.std.specs.Cmp.Lexicographic.{pointwise}
use Rattle.std.specs.Set.{unique_keys}
use Rattle.fib_resolve.specs.Keys.{same_path}
use Rattle.fib_resolve.specs.Pairs.{pairs}
use Rattle.fib_resolve.specs.declared.pairs.Pair.{Pair}
use Rattle.fib_resolve.specs.declared.types.Path.{Path}
use Rattle.fib_resolve.specs.declared.types.Tables.{Tables}
use Rattle.fib_print.specs.Paths.{path_text}
use Rattle.fib_print_listing.specs.Order.{in_order, list_before, row_from}

abbrev pub same_list : List Path → List Path → Bool
same_list ps qs = pointwise same_path ps qs

abbrev pub list_of : Pair → List Path
list_of x = x.paths

-- the lists of all pairs, each once
unfoldable pub path_lists : Tables → List (List Path)
path_lists S = in_order list_before (unique_keys same_list (map list_of (pairs S)))

-- how many pairs have the list
unfoldable pub users : Tables → List Path → ℕ
users S ps = count_by (λ x. same_list x.paths ps) (pairs S)

abbrev pub plain_text : Tables → Path → List ℕ
plain_text S p = path_text S None p

-- users N: PATHS
unfoldable pub list_text : Tables → List Path → List ℕ
list_text S ps = codes "users " ++ decimal (users S ps) ++ codes ": " ++ row_from (codes ", ") 0 (map (plain_text S) ps) ++ codes "\n"

unfoldable pub lists_text : Tables → List ℕ
lists_text S = flat_map (list_text S) (path_lists S)
