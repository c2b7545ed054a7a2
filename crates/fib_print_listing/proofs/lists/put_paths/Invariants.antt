use Rattle.std.proofs.Common.{◌≡◌, ◌++◌, drop, map}
use Rattle.std.specs.Prelude.{codes}
use Rattle.fib_print_listing.specs.Order.{row_from}
use Rattle.fib_print_listing.specs.PathLists.{plain_text}
use Rattle.fib_print_listing.proofs.lists.put_paths.Given as goal

abbrev pub invariant-loop-k : goal.invariant-loop-k
invariant-loop-k l =
    l.out.items ++ row_from (codes ", ") l.k (map (plain_text l.tables) (drop l.k l.paths)) ≡ l.initial.out.items ++ row_from (codes ", ") 0 (map (plain_text l.tables) l.paths)
