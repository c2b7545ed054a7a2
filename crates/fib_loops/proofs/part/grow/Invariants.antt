use Rattle.std.proofs.Common.{◌+◌, ◌-◌, length}
use Rattle.fib_loops.specs.inner.Entering.{unset}
use Rattle.fib_loops.specs.inner.Parting.{BackEdge, IsGrowing}
use Rattle.fib_loops.proofs.part.grow.Given as goal

abbrev pub invariant-loop-place : goal.invariant-loop-place
invariant-loop-place l = IsGrowing (BackEdge l.back) (length l.back) l.walk.starts.items l.walk.ranks.items l.number l.root l.parts.items l.members.items l.place

abbrev pub decreases-loop-place : goal.decreases-loop-place
decreases-loop-place l = unset l.parts.items + length l.members.items - l.place
