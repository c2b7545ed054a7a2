use Rattle.std.proofs.Common.{length}
use Rattle.fib_loops.specs.inner.Parting.{BackEdge, IsParted}
use Rattle.fib_loops.proofs.part.part_all.Given as goal

abbrev pub invariant-loop-done : goal.invariant-loop-done
invariant-loop-done l = IsParted (BackEdge l.back) (length l.back) l.walk.ranks.items l.parts.items l.done
