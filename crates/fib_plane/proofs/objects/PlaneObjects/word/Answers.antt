use Rattle.std.proofs.Common.{arith, ◌<◌, sym, ap, subst, vec_capacity}
use Rattle.fib_pool.proofs.Pools.{live_at, at_in}
use Rattle.fib_plane.specs.Planes.{Plane}
use Rattle.fib_plane.specs.Sound.{IsPlane}
use Rattle.fib_plane.specs.Views.{Whole}
use Rattle.fib_plane.proofs.Resting.{told_of}
use Rattle.fib_plane.proofs.Views.Seeing.{live_down}
use Rattle.fib_plane.proofs.objects.PlaneObjects.word.Goals as goal

pub load-requires-clause-object : goal.load-requires-clause-object
load-requires-clause-object g c =
    let p = c.args.self.now.plane in
    let b = c.self.inside.board in
    let u = c.self.inside.union in
    let xs = c.self.inside.pool in
    let rows = c.self.inside.table in
    let is = ap (λ (v : Whole). v.plane) c.self.view_is in
    let told : IsPlane p = told_of p b u xs rows c.self.inside.dying.items (vec_capacity c.self.inside.dying) is c.self.invariant c.tells.ensures c.count.ensures.interned in
    let live = live_down p told c.args.object c.requires.live in
    let x = live_at p.objects c.args.object live in
    let i = at_in p.objects c.args.object x.0 x.1 in
    let s = told.size in
    let in_board : c.args.object < p.board.objects = omega arith in
    subst (λ (v : Plane). c.args.object < v.board.objects) (sym is) in_board
