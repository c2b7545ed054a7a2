use Rattle.std.proofs.Common.{◌≡◌, map, length}
use Rattle.std.specs.Vec.Iter.{into_iter_items, into_iter_len}
use Rattle.fib_cover.specs.Covers.{IsAscending}
use Rattle.fib_entries_rows.specs.Known.{prefix_of}
use Rattle.fib_follow_write.specs.Written.{changed, marked}
use Rattle.fib_follow_write.proofs.bodies.mark_all.Given as goal

abbrev pub invariant-loop-entry : goal.invariant-loop-entry
invariant-loop-entry l = record {
  whole : map (changed marked (into_iter_items l.entry-iterator)) l.rows ≡ map (changed marked (into_iter_items l.initial.entry-iterator)) l.initial.rows;
  left : into_iter_len l.entry-iterator ≡ length (into_iter_items l.entry-iterator);
  ordered : IsAscending (map prefix_of l.rows);
}
