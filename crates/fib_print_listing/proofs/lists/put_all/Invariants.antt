use Rattle.std.proofs.Common.{◌≡◌, ◌++◌}
use Rattle.std.specs.Prelude.{flat_map}
use Rattle.fib_print_listing.specs.inner.Lists.{entry_line}
use Rattle.fib_print_listing.proofs.lists.put_all.Given as goal

abbrev pub invariant-loop-paths : goal.invariant-loop-paths
invariant-loop-paths l =
    l.out.items ++ flat_map (entry_line l.tables) l.paths-iterator ≡ l.initial.out.items ++ flat_map (entry_line l.tables) l.counts.entries
