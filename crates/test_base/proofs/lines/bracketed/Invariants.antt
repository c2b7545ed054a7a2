use Rattle.std.proofs.Common.{length}
use Rattle.test_base.proofs.lines.bracketed.Given as goal

abbrev pub decreases-loop-line : goal.decreases-loop-line
decreases-loop-line l = length l.rest
