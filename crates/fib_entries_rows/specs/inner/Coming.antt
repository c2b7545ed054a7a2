-- A row with other pairs. No contract of a public call rests on this.
use Rattle.std.specs.Prelude.{ℕ, List}
use Rattle.fib_resolve.specs.declared.types.FibSource.{FibSource}
use Rattle.fib_entries_rows.specs.Rows.{Row}

abbrev pub with_pairs : List (FibSource × ℕ) → Row → Row
with_pairs list r =
    record { prefix = r.prefix; pairs = list; looped = r.looped; met = r.met; marked = r.marked; dependants = r.dependants; rank = r.rank }
