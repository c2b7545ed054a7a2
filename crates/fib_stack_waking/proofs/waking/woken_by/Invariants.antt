use Rattle.std.proofs.Common.{◌≡◌, take}
use Rattle.fib_addr.specs.Prefixes.{Prefix}
use Rattle.fib_resolve.specs.declared.types.Tables.{Tables}
use Rattle.fib_entries_rows.specs.Known.{StandsFor, rank_of}
use Rattle.fib_stack_waking.specs.Waking.{are_among, have_ranks}
use Rattle.fib_stack_waking.proofs.Woken.{woken_of}
use Rattle.fib_stack_waking.proofs.waking.woken_by.Given as goal

abbrev pub invariant-loop-entry : goal.invariant-loop-entry
invariant-loop-entry l = record {
  ranks : have_ranks (rank_of l.entries.rows) l.woken.items;
  among : (S : Tables) (d : Prefix) → StandsFor l.entries S → are_among l.woken.items d ≡ woken_of S l.target (take l.entry-index l.entry-items) d;
}
