use Rattle.std.proofs.Common.{◌≡◌, ◌++◌, drop}
use Rattle.fib_print_listing.specs.Entries.{marked_from}
use Rattle.fib_print_listing.proofs.entries.put_marked_all.Given as goal

abbrev pub invariant-loop-place : goal.invariant-loop-place
invariant-loop-place l =
    l.out.items ++ marked_from l.view l.e l.place (drop l.place l.paths) ≡ l.initial.out.items ++ marked_from l.view l.e 0 l.paths
