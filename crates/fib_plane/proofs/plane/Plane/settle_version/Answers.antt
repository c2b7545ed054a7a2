use Rattle.std.proofs.Common.{sym, subst, vec_capacity}
use Rattle.fib_core_board.specs.Boards.{Board}
use Rattle.fib_plane_view.specs.View.{IsPlane}
use Rattle.fib_plane.specs.Views.{AreRecorded, plane_of, view_of}
use Rattle.fib_plane.proofs.Resting.{settled_rest}
use Rattle.fib_plane.proofs.plane.Plane.settle_version.Goals as goal

pub invariant_of-self : goal.invariant_of-self
invariant_of-self g c = settled_rest c.self.inside.board c.settle_version.new.self c.self.inside.union c.self.inside.pool c.self.inside.table c.self.inside.dying.items (vec_capacity c.self.inside.dying) c.settle_version.ensures c.self.invariant

pub invariant_of-self-inside : goal.invariant_of-self-inside
invariant_of-self-inside g c =
    let u = c.self.inside.union in
    let xs = c.self.inside.pool in
    let rows = c.self.inside.table in (
      subst (λ (q : Board). IsPlane (view_of (plane_of q u xs rows))) (sym c.settle_version.ensures) c.self.inside.sound,
      (subst (λ (q : Board). AreRecorded (plane_of q u xs rows)) (sym c.settle_version.ensures) c.self.inside.recorded, tt),
    )
