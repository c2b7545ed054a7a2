use Rattle.std.proofs.Common.{◌≡◌, ◌+◌, ◌-◌, ◌<◌, ◌≤◌}
use Rattle.fib_plane_view.specs.Frames.{Beside}
use Rattle.fib_ply.specs.Calls.{DropsNone}
use Rattle.fib_ply.specs.inner.View.{Frame}
use Rattle.fib_ply.specs.inner.Change.{IsUnderWayAt, GrowsTo, WereBare}
use Rattle.fib_ply.proofs.growing.grow.Given as goal

abbrev pub invariant-loop-at : goal.invariant-loop-at
invariant-loop-at g l = record {
  ready : IsUnderWayAt (g.P.Objects.promise l.on) (g.P.Objects.view l.on) l.addr l.at.ply l.at.depth l.at.slot;
  grows : GrowsTo (g.P.Objects.view l.initial.on) (g.P.Objects.view l.on) l.addr l.depth l.at.ply l.at.depth l.at.slot l.plies;
  room : (l.depth ≤ 7) × (l.depth ≤ l.at.depth + (g.P.Objects.view l.on).free) × (l.depth ≤ l.at.depth + (g.P.Objects.view l.on).spare) × (l.plies ≤ l.at.depth) × (l.plies ≤ l.depth);
  free : (g.P.Objects.view l.initial.on).free ≤ (g.P.Objects.view l.on).free + l.plies;
  bare : WereBare (g.P.Objects.view l.initial.on) l.addr l.at.depth l.plies;
  within : 0 < l.plies → l.at.depth ≤ l.depth;
  beside : Beside (g.P.Objects.view l.initial.on) (g.P.Objects.view l.on);
  none_dropped : DropsNone (g.P.Objects.view l.initial.on) (g.P.Objects.view l.on);
  frame : Frame (g.P.Objects.view l.initial.on) (g.P.Objects.view l.on);
  promise : g.P.Objects.promise l.on ≡ g.P.Objects.promise l.initial.on;
}

abbrev pub decreases-loop-at : goal.decreases-loop-at
decreases-loop-at g l = l.depth - l.at.depth
