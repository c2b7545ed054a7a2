use Rattle.std.proofs.Common.{◌≡◌, filter, flat_map, map, take}
use Rattle.fib_resolve.specs.Touched.{is_touched}
use Rattle.fib_resolve.specs.declared.types.Tables.{Tables}
use Rattle.fib_entries_rows.specs.Known.{StandsFor, prefix_of}
use Rattle.fib_entries_rows.specs.inner.Compare.{moved_one}
use Rattle.fib_entries.proofs.anew.compared_before.Given as goal

abbrev pub invariant-loop-place : goal.invariant-loop-place
invariant-loop-place l =
    ((S T : Tables) → StandsFor l.before S → StandsFor l.after T → l.out.touched ≡ filter (is_touched S T) (take l.place (map prefix_of l.before.rows)))
    × (l.out.moved ≡ flat_map (moved_one l.before.rows l.after.rows) (take l.place (map prefix_of l.before.rows)))
