use Rattle.std.proofs.Common.{length}
use Rattle.fib_follow_view.proofs.parts.+cover_in.Given as goal

abbrev pub decreases-cover_in : goal.decreases-cover_in
decreases-cover_in l = length l.marks.now
