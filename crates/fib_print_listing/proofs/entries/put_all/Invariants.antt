use Rattle.std.proofs.Common.{◌≡◌, ◌++◌, take}
use Rattle.std.specs.Prelude.{flat_map}
use Rattle.fib_resolve.specs.Pairs.{entries}
use Rattle.fib_print_listing.specs.Entries.{entry_text}
use Rattle.fib_print_listing.specs.Order.{in_order, prefix_before}
use Rattle.fib_print_listing.proofs.entries.put_all.Given as goal

abbrev pub invariant-loop-place : goal.invariant-loop-place
invariant-loop-place l = l.out.items ≡ l.initial.out.items ++ flat_map (entry_text l.view) (take l.place (in_order prefix_before (entries l.view)))
