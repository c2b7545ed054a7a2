use Rattle.std.proofs.Common.{length}
use Rattle.fib_urpf.proofs.sets.Sets.+gathered.Given as goal

-- proposed from what the function passes where it calls itself
abbrev pub decreases-gathered : goal.decreases-gathered
decreases-gathered l = length l.marks.now
