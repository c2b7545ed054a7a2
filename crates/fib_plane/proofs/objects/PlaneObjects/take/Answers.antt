use Rattle.std.proofs.Common.{◌≡◌, ◌+◌, refl, ap, subst, vec_capacity}
use Rattle.std.specs.Prelude.{IfSome, IfNone}
use Rattle.fib_pool.specs.Objects as pool
use Rattle.fib_pool.specs.Objects.{free_in}
use Rattle.fib_core_board.specs.Boards.{HasNoPly}
use Rattle.fib_plane.specs.Planes.{Plane}
use Rattle.fib_plane.specs.Sound.{IsPlane}
use Rattle.fib_plane.specs.Views.{Whole, plane_of}
use Rattle.fib_plane.proofs.Resting.{none_taken, plies_taken, take_plane, told_of}
use Rattle.fib_plane.proofs.Views.Taking.{take_recorded, take_seen, take_sound}
use Rattle.fib_plane.proofs.objects.PlaneObjects.take.Goals as goal

pub invariant_of-self : goal.invariant_of-self
invariant_of-self g c = take_plane c.self.inside.board c.self.inside.union c.self.inside.pool c.self.inside.table c.self.inside.dying.items (vec_capacity c.self.inside.dying) c.self.invariant c.args.kind c.take.result c.take.new.self c.take.ensures.taken c.take.ensures.same

pub invariant_of-self-inside : goal.invariant_of-self-inside
invariant_of-self-inside g c =
    let p = c.args.self.now.plane in
    let b = c.self.inside.board in
    let u = c.self.inside.union in
    let xs = c.self.inside.pool in
    let rows = c.self.inside.table in
    let ds = c.self.inside.dying.items in
    let size = vec_capacity c.self.inside.dying in
    let is = ap (λ (v : Whole). v.plane) c.self.view_is in
    let told : IsPlane p = told_of p b u xs rows ds size is c.self.invariant c.tells.ensures c.count.ensures.interned in
    let ys = c.take.new.self in
    let r = c.take.result in
    let q : Plane = plane_of b u ys rows in
    let rest = take_plane b u xs rows ds size c.self.invariant c.args.kind r ys c.take.ensures.taken c.take.ensures.same in
    let after : IsPlane q = told_of q b u ys rows ds size refl rest c.tells.ensures c.count.ensures.interned in
    let board = ap (λ (v : Plane). v.board) is in
    let records = ap (λ (v : Plane). v.records) is in
    let spare = ap (λ (v : Plane). v.spare) is in
    let taken = subst (λ (v : Plane). IfSome r (λ x. pool.TookObject v.objects ys x c.args.kind)) is c.take.ensures.taken in
    let free = subst (λ (v : Plane). IfSome r (λ x. free_in ys + 1 ≡ free_in v.objects)) is c.take.ensures.free in
    let plies : IfSome r (λ x. HasNoPly b x) = plies_taken b u xs ys c.args.kind r c.self.invariant.joined c.tells.ensures c.take.ensures.taken in
    let same : IfNone r (q ≡ p) = none_taken p b u xs ys rows r is c.take.ensures.same in
    (take_sound p q c.args.kind r c.requires told after board records spare taken free plies same c.args.self.now.sound, (take_recorded p q c.args.kind r c.requires told after board records spare taken free plies same c.args.self.now.recorded, tt))

pub returns-clause-some : goal.returns-clause-some
returns-clause-some g c =
    let p = c.args.self.now.plane in
    let b = c.self.inside.board in
    let u = c.self.inside.union in
    let xs = c.self.inside.pool in
    let rows = c.self.inside.table in
    let ds = c.self.inside.dying.items in
    let size = vec_capacity c.self.inside.dying in
    let is = ap (λ (v : Whole). v.plane) c.self.view_is in
    let told : IsPlane p = told_of p b u xs rows ds size is c.self.invariant c.tells.ensures c.count.ensures.interned in
    let ys = c.take.new.self in
    let r = c.take.result in
    let q : Plane = plane_of b u ys rows in
    let rest = take_plane b u xs rows ds size c.self.invariant c.args.kind r ys c.take.ensures.taken c.take.ensures.same in
    let after : IsPlane q = told_of q b u ys rows ds size refl rest c.tells.ensures c.count.ensures.interned in
    let board = ap (λ (v : Plane). v.board) is in
    let records = ap (λ (v : Plane). v.records) is in
    let spare = ap (λ (v : Plane). v.spare) is in
    let taken = subst (λ (v : Plane). IfSome r (λ x. pool.TookObject v.objects ys x c.args.kind)) is c.take.ensures.taken in
    let free = subst (λ (v : Plane). IfSome r (λ x. free_in ys + 1 ≡ free_in v.objects)) is c.take.ensures.free in
    let plies : IfSome r (λ x. HasNoPly b x) = plies_taken b u xs ys c.args.kind r c.self.invariant.joined c.tells.ensures c.take.ensures.taken in
    let same : IfNone r (q ≡ p) = none_taken p b u xs ys rows r is c.take.ensures.same in
    take_seen p q c.args.kind r c.requires told after board records spare taken free plies

pub returns-clause-plies : goal.returns-clause-plies
returns-clause-plies g c = plies_taken c.self.inside.board c.self.inside.union c.self.inside.pool c.take.new.self c.args.kind c.take.result c.self.invariant.joined c.tells.ensures c.take.ensures.taken

pub returns-clause-untouched : goal.returns-clause-untouched
returns-clause-untouched g c =
    let p = c.args.self.now.plane in
    let b = c.self.inside.board in
    let u = c.self.inside.union in
    let xs = c.self.inside.pool in
    let rows = c.self.inside.table in
    let ds = c.self.inside.dying.items in
    let size = vec_capacity c.self.inside.dying in
    let is = ap (λ (v : Whole). v.plane) c.self.view_is in
    let told : IsPlane p = told_of p b u xs rows ds size is c.self.invariant c.tells.ensures c.count.ensures.interned in
    let ys = c.take.new.self in
    let r = c.take.result in
    let q : Plane = plane_of b u ys rows in
    let rest = take_plane b u xs rows ds size c.self.invariant c.args.kind r ys c.take.ensures.taken c.take.ensures.same in
    let after : IsPlane q = told_of q b u ys rows ds size refl rest c.tells.ensures c.count.ensures.interned in
    let board = ap (λ (v : Plane). v.board) is in
    let records = ap (λ (v : Plane). v.records) is in
    let spare = ap (λ (v : Plane). v.spare) is in
    let taken = subst (λ (v : Plane). IfSome r (λ x. pool.TookObject v.objects ys x c.args.kind)) is c.take.ensures.taken in
    let free = subst (λ (v : Plane). IfSome r (λ x. free_in ys + 1 ≡ free_in v.objects)) is c.take.ensures.free in
    let plies : IfSome r (λ x. HasNoPly b x) = plies_taken b u xs ys c.args.kind r c.self.invariant.joined c.tells.ensures c.take.ensures.taken in
    let same : IfNone r (q ≡ p) = none_taken p b u xs ys rows r is c.take.ensures.same in
    same
