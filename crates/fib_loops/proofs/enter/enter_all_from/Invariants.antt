use Rattle.std.proofs.Common.{◌<◌}
use Rattle.std.specs.Prelude.{slice_index}
use Rattle.fib_loops.specs.inner.Entering.{Enters, KeepsEntered, steps_left}
use Rattle.fib_loops.proofs.enter.enter_all_from.Given as goal

abbrev pub invariant-loop-newest : goal.invariant-loop-newest
invariant-loop-newest l = record {
  enters : Enters l.graph l.walk;
  keeps : KeepsEntered l.fn.walk.starts.items l.walk.starts.items;
  entered : 0 < slice_index l.walk.starts.items l.root;
}

abbrev pub decreases-loop-newest : goal.decreases-loop-newest
decreases-loop-newest l = steps_left l.walk
