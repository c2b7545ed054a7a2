use Rattle.std.proofs.Common.{◌≡◌, ◌*◌, drop, length}
use Rattle.fib_resolve.specs.Pairs.{entries}
use Rattle.fib_entries_rows.specs.inner.Building.{AreSlots}
use Rattle.fib_entries_rows.proofs.parts.places_of.Given as goal

abbrev pub invariant-loop-i : goal.invariant-loop-i
invariant-loop-i l = record {
  many : length l.places.items ≡ 7 * length (entries l.meaning);
  are : AreSlots l.meaning l.i (drop l.i l.pairs) l.places.items;
}
