use Rattle.std.proofs.Common.{◌≡◌}
use Rattle.fib_plane_view.specs.View.{Fills}
use Rattle.fib_plane_view.specs.inner.Filling.{IsHalfFull}
use Rattle.fib_plane.specs.Views.{promise_of, view_of}
use Rattle.fib_plane.proofs.objects.PlaneObjects.fill.Given as goal

abbrev pub invariant-loop-slot : goal.invariant-loop-slot
invariant-loop-slot g l = record {
  fills : Fills (view_of l.initial.self.plane) l.object l.word l.slot (view_of l.self.plane);
  half : IsHalfFull (view_of l.initial.self.plane) (view_of l.self.plane) l.object l.slot l.word;
  promise : promise_of l.self.plane.board ≡ promise_of l.initial.self.plane.board;
}
