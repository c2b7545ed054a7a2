use Rattle.std.proofs.Common.{◌≡◌, ◌++◌, filter, flat_map, map, take}
use Rattle.fib_resolve.specs.declared.types.Tables.{Tables}
use Rattle.fib_entries_rows.specs.Known.{StandsFor, prefix_of}
use Rattle.fib_entries_rows.specs.inner.Compare.{is_new, moved_new}
use Rattle.fib_entries.proofs.anew.add_all_new.Given as goal

abbrev pub invariant-loop-place : goal.invariant-loop-place
invariant-loop-place l =
    ((S T : Tables) → StandsFor l.before S → StandsFor l.after T → l.out.touched ≡ l.fn.out.touched ++ filter (is_new l.before.rows S T) (take l.place (map prefix_of l.after.rows)))
    × (l.out.moved ≡ l.fn.out.moved ++ flat_map (moved_new l.before.rows l.after.rows) (take l.place (map prefix_of l.after.rows)))
