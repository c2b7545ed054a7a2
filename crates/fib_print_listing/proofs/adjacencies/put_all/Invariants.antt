use Rattle.std.proofs.Common.{◌≡◌, ◌++◌}
use Rattle.std.specs.Prelude.{flat_map}
use Rattle.fib_print_listing.specs.inner.Hops.{hop_line}
use Rattle.fib_print_listing.proofs.adjacencies.put_all.Given as goal

abbrev pub invariant-loop-x : goal.invariant-loop-x
invariant-loop-x l = l.out.items ++ flat_map (hop_line l.tables) l.x-iterator ≡ l.initial.out.items ++ flat_map (hop_line l.tables) l.hops.entries
