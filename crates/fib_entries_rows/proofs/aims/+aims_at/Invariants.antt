use Rattle.std.proofs.Common.{length}
use Rattle.fib_entries_rows.proofs.aims.+aims_at.Given as goal

abbrev pub decreases-aims_at : goal.decreases-aims_at
decreases-aims_at l = length l.marks.now
