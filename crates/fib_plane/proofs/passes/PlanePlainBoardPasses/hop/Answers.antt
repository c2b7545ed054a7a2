use Rattle.std.proofs.Common.{refl, sym, subst, vec_capacity}
use Rattle.fib_plane_view.specs.View.{IsPlane}
use Rattle.fib_plane.specs.Views.{AreRecorded, plane_of, view_of}
use Rattle.fib_core_board.specs.Boards.{Board}
use Rattle.fib_plane.specs.inner.Joined.{IsAtRest}
use Rattle.fib_plane.proofs.Resting.{moved_rest}
use Rattle.fib_plane.proofs.passes.PlanePlainBoardPasses.hop.Goals as goal

pub invariant_of-self : goal.invariant_of-self
invariant_of-self c =
    let u = c.self.inside.union in
    let xs = c.self.inside.pool in
    let rows = c.self.inside.table in
    let ds = c.self.inside.dying.items in
    let size = vec_capacity c.self.inside.dying in
    subst (λ (q : Board). IsAtRest q u xs rows ds size) (sym c.hop.ensures.pass) (moved_rest c.self.inside.board _ u xs rows ds size refl c.self.invariant)

pub invariant_of-self-inside : goal.invariant_of-self-inside
invariant_of-self-inside c =
    let u = c.self.inside.union in
    let xs = c.self.inside.pool in
    let rows = c.self.inside.table in (
      subst (λ (q : Board). IsPlane (view_of (plane_of q u xs rows))) (sym c.hop.ensures.pass) c.self.inside.sound,
      (subst (λ (q : Board). AreRecorded (plane_of q u xs rows)) (sym c.hop.ensures.pass) c.self.inside.recorded, tt),
    )
