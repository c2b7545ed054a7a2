use Rattle.std.proofs.Common.{arith, ◌∙◌, ap}
use Rattle.fib_core_board.specs.Boards.{Board}
use Rattle.fib_plane.specs.Planes.{Plane}
use Rattle.test_plane.proofs.plane.what_a_fresh_plane_has.Goals as goal

pub passes_left-left-requires : goal.passes_left-left-requires
passes_left-left-requires g c =
    let two = ap (λ (p : Plane). p.board.workers) c.in_ok-room.ensures.plane ∙ ap (λ (b : Board). b.workers) c.in_ok-plane.ensures.board in
    omega (arith, two)
