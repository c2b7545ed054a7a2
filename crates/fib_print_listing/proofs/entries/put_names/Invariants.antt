use Rattle.std.proofs.Common.{◌≡◌, ◌++◌, drop, map}
use Rattle.std.specs.Prelude.{codes}
use Rattle.fib_print_listing.specs.Order.{row_from}
use Rattle.fib_print_listing.specs.Entries.{source_text}
use Rattle.fib_print_listing.specs.inner.Views.{source_in}
use Rattle.fib_print_listing.proofs.entries.put_names.Given as goal

abbrev pub invariant-loop-k : goal.invariant-loop-k
invariant-loop-k l =
    l.out.items ++ row_from (codes "+") l.k (map source_text (map source_in (drop l.k l.sources))) ≡ l.initial.out.items ++ row_from (codes "+") 0 (map source_text (map source_in l.sources))
