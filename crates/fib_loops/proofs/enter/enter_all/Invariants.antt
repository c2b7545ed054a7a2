use Rattle.std.proofs.Common.{◌≡◌, [], ℕ, ◌<◌}
use Rattle.std.specs.Prelude.{slice_index}
use Rattle.fib_loops.specs.inner.Entering.{Enters}
use Rattle.fib_loops.proofs.enter.enter_all.Given as goal

abbrev pub invariant-loop-root : goal.invariant-loop-root
invariant-loop-root l = record {
  enters : Enters l.graph l.walk;
  path : l.walk.path.items ≡ [];
  entered : (x : ℕ) → x < l.root → 0 < slice_index l.walk.starts.items x;
}
