use Rattle.std.proofs.Common.{arith, ◌≡◌, ◌≤◌, ◌∙◌, List, ℕ, [], Option, Some, None, refl, sym, ap, subst, vec_capacity}
use Rattle.fib_base_interned.specs.Interned.{kept_of}
use Rattle.fib_pool.specs.declared.object.Object.{Object}
use Rattle.fib_pool.specs.Objects.{IsLive}
use Rattle.fib_core_board.specs.May.{Allows, HoldsPromise}
use Rattle.fib_plane.specs.Planes.{Plane, IsHeld, IsSwept, released}
use Rattle.fib_plane.specs.Sound.{AreRecords, IsPlane}
use Rattle.fib_plane.specs.Views.{Whole, plane_of, promise_of}
use Rattle.fib_plane.specs.inner.Joined.{AreDying, IsJoined}
use Rattle.fib_plane.proofs.Resting.{let_go_joined, swept_plane, told_of}
use Rattle.fib_plane.proofs.Recording.{records_released}
use Rattle.fib_plane.proofs.Views.Promising.{allows_down, serves_down}
use Rattle.fib_plane.proofs.Views.Seeing.{held_down}
use Rattle.fib_plane.proofs.Views.Taking.{gone_recorded, gone_seen, gone_sound, held_released, unrecorded}
use Rattle.fib_plane.proofs.objects.PlaneObjects.let_go.Goals as goal

pub drop_edge-requires-clause-live : goal.drop_edge-requires-clause-live
drop_edge-requires-clause-live g c =
    let p = c.args.self.now.plane in
    let b = c.self.inside.board in
    let u = c.self.inside.union in
    let xs = c.self.inside.pool in
    let rows = c.self.inside.table in
    let ds = c.self.inside.dying.items in
    let size = vec_capacity c.self.inside.dying in
    let o = c.args.object in
    let is = ap (λ (v : Whole). v.plane) c.self.view_is in
    let told : IsPlane p = told_of p b u xs rows ds size is c.self.invariant c.tells.ensures c.count.ensures.interned in
    λ y e. (
    let held : IsHeld b xs o = subst (λ (v : Plane). IsHeld v.board v.objects o) (sym is) (held_down p.board p.objects o c.requires.held).1 in
    let live : IsLive xs o = omega arith in
    let same : o ≡ y = cc in
    subst (λ (z : ℕ). IsLive xs z) same live)

pub sweep-requires-clause-dying : goal.sweep-requires-clause-dying
sweep-requires-clause-dying g c = c.drop_edge.ensures.dying [] (subst (λ (l : List ℕ). AreDying c.self.inside.pool l) (sym c.self.invariant.calm) c.self.invariant.none)

pub sweep-requires-clause-joined : goal.sweep-requires-clause-joined
sweep-requires-clause-joined g c =
    let p = c.args.self.now.plane in
    let b = c.self.inside.board in
    let u = c.self.inside.union in
    let xs = c.self.inside.pool in
    let rows = c.self.inside.table in
    let ds = c.self.inside.dying.items in
    let size = vec_capacity c.self.inside.dying in
    let o = c.args.object in
    let is = ap (λ (v : Whole). v.plane) c.self.view_is in
    let told : IsPlane p = told_of p b u xs rows ds size is c.self.invariant c.tells.ensures c.count.ensures.interned in
    let held : IsHeld b xs o = subst (λ (v : Plane). IsHeld v.board v.objects o) (sym is) (held_down p.board p.objects o c.requires.held).1 in
    subst (λ (l : List (Option Object)). IsJoined b u l) (sym c.drop_edge.ensures.pool) (let_go_joined b u xs rows ds size c.self.invariant o held (held_down p.board p.objects o c.requires.held).0)

pub sweep-requires-clause-allowed : goal.sweep-requires-clause-allowed
sweep-requires-clause-allowed g c =
    let p = c.args.self.now.plane in
    let b = c.self.inside.board in
    let u = c.self.inside.union in
    let xs = c.self.inside.pool in
    let rows = c.self.inside.table in
    let ds = c.self.inside.dying.items in
    let size = vec_capacity c.self.inside.dying in
    let o = c.args.object in
    let is = ap (λ (v : Whole). v.plane) c.self.view_is in
    let told : IsPlane p = told_of p b u xs rows ds size is c.self.invariant c.tells.ensures c.count.ensures.interned in
    subst (λ (v : Plane). Allows v.board) (sym is) (allows_down p.board c.requires.promise.0)

pub sweep-requires-clause-serves : goal.sweep-requires-clause-serves
sweep-requires-clause-serves g c =
    let p = c.args.self.now.plane in
    let b = c.self.inside.board in
    let u = c.self.inside.union in
    let xs = c.self.inside.pool in
    let rows = c.self.inside.table in
    let ds = c.self.inside.dying.items in
    let size = vec_capacity c.self.inside.dying in
    let o = c.args.object in
    let is = ap (λ (v : Whole). v.plane) c.self.view_is in
    let told : IsPlane p = told_of p b u xs rows ds size is c.self.invariant c.tells.ensures c.count.ensures.interned in
    let may = c.requires.promise in
    let asked = serves_down p may.1.0 may.1.1 (IsHeld p.board (released p o)) (λ begun e x lasting at held. held_released p o c.requires.held x (λ same. may.1.2 begun e lasting (at ∙ ap (λ (i : ℕ). Some i) same)) held) in
    subst (λ (l : List (Option Object)). HoldsPromise b (IsHeld b l)) (sym c.drop_edge.ensures.pool) (subst (λ (v : Plane). HoldsPromise v.board (IsHeld v.board (released v o))) (sym is) asked)

pub invariant_of-self : goal.invariant_of-self
invariant_of-self g c =
    let p = c.args.self.now.plane in
    let b = c.self.inside.board in
    let u = c.self.inside.union in
    let xs = c.self.inside.pool in
    let rows = c.self.inside.table in
    let ds = c.self.inside.dying.items in
    let size = vec_capacity c.self.inside.dying in
    let o = c.args.object in
    let is = ap (λ (v : Whole). v.plane) c.self.view_is in
    let told : IsPlane p = told_of p b u xs rows ds size is c.self.invariant c.tells.ensures c.count.ensures.interned in
    let new = c.sweep.new in
    let room : b.objects ≤ vec_capacity new.dying = omega (arith, c.self.invariant.roomy, c.drop_edge.ensures.room, c.sweep.ensures.room) in
    let held : IsHeld b xs o = subst (λ (v : Plane). IsHeld v.board v.objects o) (sym is) (held_down p.board p.objects o c.requires.held).1 in
    let live : IsLive xs o = omega arith in
    let apart : kept_of rows o ≡ None = subst (λ (v : Plane). kept_of v.records o ≡ None) (sym is) (unrecorded p told o c.requires.held) in
    let records = subst (λ (zs : List (Option Object)). AreRecords b zs rows) (sym c.drop_edge.ensures.pool) (records_released b xs rows c.self.invariant.records o live apart) in
    let rest = swept_plane b new.board new.union c.drop_edge.new.pool new.pool rows new.dying.items (vec_capacity new.dying) c.sweep.ensures.swept c.self.invariant.acyclic c.sweep.ensures.joined c.sweep.ensures.dying c.sweep.ensures.empty room records in
    rest

pub invariant_of-self-inside : goal.invariant_of-self-inside
invariant_of-self-inside g c =
    let p = c.args.self.now.plane in
    let b = c.self.inside.board in
    let u = c.self.inside.union in
    let xs = c.self.inside.pool in
    let rows = c.self.inside.table in
    let ds = c.self.inside.dying.items in
    let size = vec_capacity c.self.inside.dying in
    let o = c.args.object in
    let is = ap (λ (v : Whole). v.plane) c.self.view_is in
    let told : IsPlane p = told_of p b u xs rows ds size is c.self.invariant c.tells.ensures c.count.ensures.interned in
    let new = c.sweep.new in
    let room : b.objects ≤ vec_capacity new.dying = omega (arith, c.self.invariant.roomy, c.drop_edge.ensures.room, c.sweep.ensures.room) in
    let held : IsHeld b xs o = subst (λ (v : Plane). IsHeld v.board v.objects o) (sym is) (held_down p.board p.objects o c.requires.held).1 in
    let live : IsLive xs o = omega arith in
    let apart : kept_of rows o ≡ None = subst (λ (v : Plane). kept_of v.records o ≡ None) (sym is) (unrecorded p told o c.requires.held) in
    let records = subst (λ (zs : List (Option Object)). AreRecords b zs rows) (sym c.drop_edge.ensures.pool) (records_released b xs rows c.self.invariant.records o live apart) in
    let rest = swept_plane b new.board new.union c.drop_edge.new.pool new.pool rows new.dying.items (vec_capacity new.dying) c.sweep.ensures.swept c.self.invariant.acyclic c.sweep.ensures.joined c.sweep.ensures.dying c.sweep.ensures.empty room records in
    let q : Plane = plane_of new.board new.union new.pool rows in
    let after : IsPlane q = told_of q new.board new.union new.pool rows new.dying.items (vec_capacity new.dying) refl rest c.sweep.ensures.told c.count.ensures.interned in
    let swept : IsSwept p.board q.board (released p o) q.objects = subst (λ (v : Plane). IsSwept v.board q.board (released v o) q.objects) is (subst (λ (l : List (Option Object)). IsSwept b q.board l q.objects) c.drop_edge.ensures.pool c.sweep.ensures.swept) in
    let kept : q.records ≡ p.records = ap (λ (v : Plane). v.records) is in
    let spare : p.spare ≤ q.spare = subst (λ (v : Plane). v.spare ≤ q.spare) is c.sweep.ensures.spare in
    (gone_sound p q o told after c.requires.held swept kept spare c.args.self.now.sound, (gone_recorded p q o told after c.requires.held swept kept spare c.args.self.now.recorded, tt))

pub returns-clause-gone : goal.returns-clause-gone
returns-clause-gone g c =
    let p = c.args.self.now.plane in
    let b = c.self.inside.board in
    let u = c.self.inside.union in
    let xs = c.self.inside.pool in
    let rows = c.self.inside.table in
    let ds = c.self.inside.dying.items in
    let size = vec_capacity c.self.inside.dying in
    let o = c.args.object in
    let is = ap (λ (v : Whole). v.plane) c.self.view_is in
    let told : IsPlane p = told_of p b u xs rows ds size is c.self.invariant c.tells.ensures c.count.ensures.interned in
    let new = c.sweep.new in
    let room : b.objects ≤ vec_capacity new.dying = omega (arith, c.self.invariant.roomy, c.drop_edge.ensures.room, c.sweep.ensures.room) in
    let held : IsHeld b xs o = subst (λ (v : Plane). IsHeld v.board v.objects o) (sym is) (held_down p.board p.objects o c.requires.held).1 in
    let live : IsLive xs o = omega arith in
    let apart : kept_of rows o ≡ None = subst (λ (v : Plane). kept_of v.records o ≡ None) (sym is) (unrecorded p told o c.requires.held) in
    let records = subst (λ (zs : List (Option Object)). AreRecords b zs rows) (sym c.drop_edge.ensures.pool) (records_released b xs rows c.self.invariant.records o live apart) in
    let rest = swept_plane b new.board new.union c.drop_edge.new.pool new.pool rows new.dying.items (vec_capacity new.dying) c.sweep.ensures.swept c.self.invariant.acyclic c.sweep.ensures.joined c.sweep.ensures.dying c.sweep.ensures.empty room records in
    let q : Plane = plane_of new.board new.union new.pool rows in
    let after : IsPlane q = told_of q new.board new.union new.pool rows new.dying.items (vec_capacity new.dying) refl rest c.sweep.ensures.told c.count.ensures.interned in
    let swept : IsSwept p.board q.board (released p o) q.objects = subst (λ (v : Plane). IsSwept v.board q.board (released v o) q.objects) is (subst (λ (l : List (Option Object)). IsSwept b q.board l q.objects) c.drop_edge.ensures.pool c.sweep.ensures.swept) in
    let kept : q.records ≡ p.records = ap (λ (v : Plane). v.records) is in
    let spare : p.spare ≤ q.spare = subst (λ (v : Plane). v.spare ≤ q.spare) is c.sweep.ensures.spare in
    gone_seen p q o told after c.requires.held swept kept spare

pub returns-clause-promise : goal.returns-clause-promise
returns-clause-promise g c =
    let p = c.args.self.now.plane in
    let b = c.self.inside.board in
    let u = c.self.inside.union in
    let xs = c.self.inside.pool in
    let rows = c.self.inside.table in
    let ds = c.self.inside.dying.items in
    let size = vec_capacity c.self.inside.dying in
    let o = c.args.object in
    let is = ap (λ (v : Whole). v.plane) c.self.view_is in
    let told : IsPlane p = told_of p b u xs rows ds size is c.self.invariant c.tells.ensures c.count.ensures.interned in
    let new = c.sweep.new in
    let room : b.objects ≤ vec_capacity new.dying = omega (arith, c.self.invariant.roomy, c.drop_edge.ensures.room, c.sweep.ensures.room) in
    let held : IsHeld b xs o = subst (λ (v : Plane). IsHeld v.board v.objects o) (sym is) (held_down p.board p.objects o c.requires.held).1 in
    let live : IsLive xs o = omega arith in
    let apart : kept_of rows o ≡ None = subst (λ (v : Plane). kept_of v.records o ≡ None) (sym is) (unrecorded p told o c.requires.held) in
    let records = subst (λ (zs : List (Option Object)). AreRecords b zs rows) (sym c.drop_edge.ensures.pool) (records_released b xs rows c.self.invariant.records o live apart) in
    let rest = swept_plane b new.board new.union c.drop_edge.new.pool new.pool rows new.dying.items (vec_capacity new.dying) c.sweep.ensures.swept c.self.invariant.acyclic c.sweep.ensures.joined c.sweep.ensures.dying c.sweep.ensures.empty room records in
    let q : Plane = plane_of new.board new.union new.pool rows in
    let after : IsPlane q = told_of q new.board new.union new.pool rows new.dying.items (vec_capacity new.dying) refl rest c.sweep.ensures.told c.count.ensures.interned in
    let swept : IsSwept p.board q.board (released p o) q.objects = subst (λ (v : Plane). IsSwept v.board q.board (released v o) q.objects) is (subst (λ (l : List (Option Object)). IsSwept b q.board l q.objects) c.drop_edge.ensures.pool c.sweep.ensures.swept) in
    let kept : q.records ≡ p.records = ap (λ (v : Plane). v.records) is in
    let spare : p.spare ≤ q.spare = subst (λ (v : Plane). v.spare ≤ q.spare) is c.sweep.ensures.spare in
    ap promise_of swept.frame

pub returns-clause-swept : goal.returns-clause-swept
returns-clause-swept g c =
    let p = c.args.self.now.plane in
    let b = c.self.inside.board in
    let u = c.self.inside.union in
    let xs = c.self.inside.pool in
    let rows = c.self.inside.table in
    let ds = c.self.inside.dying.items in
    let size = vec_capacity c.self.inside.dying in
    let o = c.args.object in
    let is = ap (λ (v : Whole). v.plane) c.self.view_is in
    let told : IsPlane p = told_of p b u xs rows ds size is c.self.invariant c.tells.ensures c.count.ensures.interned in
    let new = c.sweep.new in
    let room : b.objects ≤ vec_capacity new.dying = omega (arith, c.self.invariant.roomy, c.drop_edge.ensures.room, c.sweep.ensures.room) in
    let held : IsHeld b xs o = subst (λ (v : Plane). IsHeld v.board v.objects o) (sym is) (held_down p.board p.objects o c.requires.held).1 in
    let live : IsLive xs o = omega arith in
    let apart : kept_of rows o ≡ None = subst (λ (v : Plane). kept_of v.records o ≡ None) (sym is) (unrecorded p told o c.requires.held) in
    let records = subst (λ (zs : List (Option Object)). AreRecords b zs rows) (sym c.drop_edge.ensures.pool) (records_released b xs rows c.self.invariant.records o live apart) in
    let rest = swept_plane b new.board new.union c.drop_edge.new.pool new.pool rows new.dying.items (vec_capacity new.dying) c.sweep.ensures.swept c.self.invariant.acyclic c.sweep.ensures.joined c.sweep.ensures.dying c.sweep.ensures.empty room records in
    let q : Plane = plane_of new.board new.union new.pool rows in
    let after : IsPlane q = told_of q new.board new.union new.pool rows new.dying.items (vec_capacity new.dying) refl rest c.sweep.ensures.told c.count.ensures.interned in
    let swept : IsSwept p.board q.board (released p o) q.objects = subst (λ (v : Plane). IsSwept v.board q.board (released v o) q.objects) is (subst (λ (l : List (Option Object)). IsSwept b q.board l q.objects) c.drop_edge.ensures.pool c.sweep.ensures.swept) in
    let kept : q.records ≡ p.records = ap (λ (v : Plane). v.records) is in
    let spare : p.spare ≤ q.spare = subst (λ (v : Plane). v.spare ≤ q.spare) is c.sweep.ensures.spare in
    swept
