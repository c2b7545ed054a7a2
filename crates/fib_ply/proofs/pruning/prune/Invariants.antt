use Rattle.std.specs.Prelude.{◌≡◌, ◌+◌, ◌≤◌}
use Rattle.fib_plane_view.specs.Frames.{Beside}
use Rattle.fib_ply.specs.Calls.{DropsNone}
use Rattle.fib_ply.specs.inner.Change.{CanPruneAt, PrunesTo}
use Rattle.fib_ply.proofs.pruning.prune.Given as goal

abbrev pub invariant-loop-leaf : goal.invariant-loop-leaf
invariant-loop-leaf g l = record {
  ready : CanPruneAt (g.P.Objects.promise l.on) (g.S.Prefixes.look l.set) l.addr (g.P.Objects.view l.on) l.leaf.above l.leaf.ply l.leaf.depth l.leaf.slot;
  pruned : PrunesTo (g.S.Prefixes.look l.set) l.addr (g.P.Objects.view l.initial.on) (g.P.Objects.view l.on) l.leaf.above l.leaf.ply l.leaf.depth l.leaf.slot l.plies;
  few : l.plies + l.leaf.depth ≤ 7;
  free : (g.P.Objects.view l.initial.on).free ≤ (g.P.Objects.view l.on).free;
  promise : g.P.Objects.promise l.on ≡ g.P.Objects.promise l.initial.on;
  beside : Beside (g.P.Objects.view l.initial.on) (g.P.Objects.view l.on);
  none_dropped : DropsNone (g.P.Objects.view l.initial.on) (g.P.Objects.view l.on);
}

abbrev pub decreases-loop-leaf : goal.decreases-loop-leaf
decreases-loop-leaf g l = l.leaf.depth
