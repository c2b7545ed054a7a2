use Rattle.std.proofs.Common.{ap, vec_capacity}
use Rattle.fib_plane.specs.Sound.{IsPlane}
use Rattle.fib_plane.specs.Views.{Whole}
use Rattle.fib_plane.proofs.Resting.{told_of}
use Rattle.fib_plane.proofs.Views.Recorded.{counted_seen}
use Rattle.fib_plane.proofs.plane.Plane.tells.Goals as goal

pub returns-clause-told : goal.returns-clause-told
returns-clause-told g c =
    let p = c.args.self.now.plane in
    let b = c.self.inside.board in
    let u = c.self.inside.union in
    let xs = c.self.inside.pool in
    let rows = c.self.inside.table in
    let is = ap (λ (v : Whole). v.plane) c.self.view_is in
    let told : IsPlane p = told_of p b u xs rows c.self.inside.dying.items (vec_capacity c.self.inside.dying) is c.self.invariant c.tells.ensures c.count.ensures.interned in
    told

pub returns-clause-seen : goal.returns-clause-seen
returns-clause-seen g c =
    let p = c.args.self.now.plane in
    let b = c.self.inside.board in
    let u = c.self.inside.union in
    let xs = c.self.inside.pool in
    let rows = c.self.inside.table in
    let is = ap (λ (v : Whole). v.plane) c.self.view_is in
    let told : IsPlane p = told_of p b u xs rows c.self.inside.dying.items (vec_capacity c.self.inside.dying) is c.self.invariant c.tells.ensures c.count.ensures.interned in
    counted_seen p told c.args.self.now.recorded
