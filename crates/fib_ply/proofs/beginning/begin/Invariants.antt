use Rattle.std.proofs.Common.{◌≡◌, ◌≤◌}
use Rattle.fib_plane_view.specs.Frames.{Beside}
use Rattle.fib_ply.specs.Calls.{DropsNone}
use Rattle.fib_ply.specs.Blank.{IsBlank}
use Rattle.fib_ply.proofs.beginning.begin.Given as goal

abbrev pub invariant-loop-slot : goal.invariant-loop-slot
invariant-loop-slot g l = record {
  blank : IsBlank (g.P.Objects.promise l.on) (g.P.Objects.view l.on) l.object l.slot;
  promise : g.P.Objects.promise l.on ≡ g.P.Objects.promise l.initial.on;
  free : (g.P.Objects.view l.initial.on).free ≤ (g.P.Objects.view l.on).free;
  beside : Beside (g.P.Objects.view l.initial.on) (g.P.Objects.view l.on);
  none_dropped : DropsNone (g.P.Objects.view l.initial.on) (g.P.Objects.view l.on);
}
