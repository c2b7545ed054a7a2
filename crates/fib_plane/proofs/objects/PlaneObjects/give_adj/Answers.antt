use Rattle.std.proofs.Common.{arith, ◌≡◌, ◌≢◌, ◌≤◌, ◌∙◌, ℕ, List, [], Option, refl, sym, ap, subst, vec_capacity}
use Rattle.std.specs.Prelude.{IsSome, is_some}
use Rattle.std.proofs.lemmas.Bool.{false≢true}
use Rattle.fib_base_interned.specs.Interned.{kept_of, users_of}
use Rattle.fib_pool.specs.declared.object.Object.{Object}
use Rattle.fib_pool.specs.Objects.{IsLive}
use Rattle.fib_core_board.specs.May.{Allows, HoldsPromise}
use Rattle.fib_plane.specs.Planes.{Plane, IsHeld, IsSwept}
use Rattle.fib_plane.specs.Records.{GaveRecord, given_objects}
use Rattle.fib_plane.specs.Sound.{IsPlane}
use Rattle.fib_plane.specs.Views.{Whole, plane_of, promise_of}
use Rattle.fib_plane.specs.inner.Joined.{AreDying, IsJoined}
use Rattle.fib_plane.proofs.Resting.{let_go_joined, swept_plane, told_of}
use Rattle.fib_plane.proofs.Sweeping.{swept_none}
use Rattle.fib_plane.proofs.Filling.{given_rest, given_released, given_same, kept_held, records_forgotten}
use Rattle.fib_plane.proofs.Views.Differing.{gave_stores}
use Rattle.fib_plane.proofs.Views.Promising.{allows_down, serves_down}
use Rattle.fib_plane.proofs.Views.Recording.{gave_recorded, gave_seen, gave_sound, held_given}
use Rattle.fib_plane.proofs.Views.Seeing.{record_down}
use Rattle.fib_plane.proofs.objects.PlaneObjects.give_adj.Goals as goal

pub give_adj-requires : goal.give_adj-requires
give_adj-requires g c =
    let p = c.args.self.now.plane in
    let b = c.self.inside.board in
    let u = c.self.inside.union in
    let xs = c.self.inside.pool in
    let rows = c.self.inside.table in
    let ds = c.self.inside.dying.items in
    let size = vec_capacity c.self.inside.dying in
    let o = c.args.object in
    let is = ap (λ (v : Whole). v.plane) c.self.view_is in
    let told : IsPlane p = told_of p b u xs rows ds size is c.self.invariant c.tells.ensures c.count.ensures.interned in
    let m = c.requires.record.0 in
    let e = c.requires.record.1 in
    let there : IsSome (kept_of rows o) = subst (λ (v : Plane). IsSome (kept_of v.records o)) (sym is) (ap is_some (record_down p.records told.interned m o e).1) in
    there

pub invariant_of-self : goal.invariant_of-self
invariant_of-self g c =
    let p = c.args.self.now.plane in
    let b = c.self.inside.board in
    let u = c.self.inside.union in
    let xs = c.self.inside.pool in
    let rows = c.self.inside.table in
    let ds = c.self.inside.dying.items in
    let size = vec_capacity c.self.inside.dying in
    let o = c.args.object in
    let is = ap (λ (v : Whole). v.plane) c.self.view_is in
    let told : IsPlane p = told_of p b u xs rows ds size is c.self.invariant c.tells.ensures c.count.ensures.interned in
    given_rest b u xs rows c.give_adj.new.self ds size o c.give_adj.ensures.given c.self.invariant

pub invariant_of-self-inside : goal.invariant_of-self-inside
invariant_of-self-inside g c =
    let p = c.args.self.now.plane in
    let b = c.self.inside.board in
    let u = c.self.inside.union in
    let xs = c.self.inside.pool in
    let rows = c.self.inside.table in
    let ds = c.self.inside.dying.items in
    let size = vec_capacity c.self.inside.dying in
    let o = c.args.object in
    let is = ap (λ (v : Whole). v.plane) c.self.view_is in
    let told : IsPlane p = told_of p b u xs rows ds size is c.self.invariant c.tells.ensures c.count.ensures.interned in
    let m = c.requires.record.0 in
    let e = c.requires.record.1 in
    let there : IsSome (kept_of rows o) = subst (λ (v : Plane). IsSome (kept_of v.records o)) (sym is) (ap is_some (record_down p.records told.interned m o e).1) in
    let rest = given_rest b u xs rows c.give_adj.new.self ds size o c.give_adj.ensures.given c.self.invariant in
    let q : Plane = plane_of b u xs c.give_adj.new.self in
    let after : IsPlane q = told_of q b u xs c.give_adj.new.self ds size refl rest c.tells.ensures c.give_adj.ensures.interned in
    let more : users_of rows o ≢ 1 = λ n. false≢true (c.if-not-give_adj.ensures.last.1 n) in
    let here : GaveRecord (plane_of b u xs rows) q o = record {
      gives = c.give_adj.ensures.given;
      shared = λ n. (refl, refl);
      swept = subst (λ (l : List (Option Object)). IsSwept b b l xs) (sym (given_same (plane_of b u xs rows) o more)) (swept_none b xs);
      spare = omega arith;
    } in
    let gave : GaveRecord p q o = subst (λ (v : Plane). GaveRecord v q o) is here in
    (gave_sound p q told after m o e gave c.args.self.now.sound, (gave_recorded p q told after m o e gave c.args.self.now.recorded, tt))

pub returns-then-not-give_adj-clause-gave : goal.returns-then-not-give_adj-clause-gave
returns-then-not-give_adj-clause-gave g c =
    let p = c.args.self.now.plane in
    let b = c.self.inside.board in
    let u = c.self.inside.union in
    let xs = c.self.inside.pool in
    let rows = c.self.inside.table in
    let ds = c.self.inside.dying.items in
    let size = vec_capacity c.self.inside.dying in
    let o = c.args.object in
    let is = ap (λ (v : Whole). v.plane) c.self.view_is in
    let told : IsPlane p = told_of p b u xs rows ds size is c.self.invariant c.tells.ensures c.count.ensures.interned in
    let m = c.requires.record.0 in
    let e = c.requires.record.1 in
    let there : IsSome (kept_of rows o) = subst (λ (v : Plane). IsSome (kept_of v.records o)) (sym is) (ap is_some (record_down p.records told.interned m o e).1) in
    let rest = given_rest b u xs rows c.give_adj.new.self ds size o c.give_adj.ensures.given c.self.invariant in
    let q : Plane = plane_of b u xs c.give_adj.new.self in
    let after : IsPlane q = told_of q b u xs c.give_adj.new.self ds size refl rest c.tells.ensures c.give_adj.ensures.interned in
    let more : users_of rows o ≢ 1 = λ n. false≢true (c.if-not-give_adj.ensures.last.1 n) in
    let here : GaveRecord (plane_of b u xs rows) q o = record {
      gives = c.give_adj.ensures.given;
      shared = λ n. (refl, refl);
      swept = subst (λ (l : List (Option Object)). IsSwept b b l xs) (sym (given_same (plane_of b u xs rows) o more)) (swept_none b xs);
      spare = omega arith;
    } in
    let gave : GaveRecord p q o = subst (λ (v : Plane). GaveRecord v q o) is here in
    λ n f. gave_seen p q told after n o f gave

pub returns-then-not-give_adj-clause-plane : goal.returns-then-not-give_adj-clause-plane
returns-then-not-give_adj-clause-plane g c =
    let p = c.args.self.now.plane in
    let b = c.self.inside.board in
    let u = c.self.inside.union in
    let xs = c.self.inside.pool in
    let rows = c.self.inside.table in
    let ds = c.self.inside.dying.items in
    let size = vec_capacity c.self.inside.dying in
    let o = c.args.object in
    let is = ap (λ (v : Whole). v.plane) c.self.view_is in
    let told : IsPlane p = told_of p b u xs rows ds size is c.self.invariant c.tells.ensures c.count.ensures.interned in
    let m = c.requires.record.0 in
    let e = c.requires.record.1 in
    let there : IsSome (kept_of rows o) = subst (λ (v : Plane). IsSome (kept_of v.records o)) (sym is) (ap is_some (record_down p.records told.interned m o e).1) in
    let rest = given_rest b u xs rows c.give_adj.new.self ds size o c.give_adj.ensures.given c.self.invariant in
    let q : Plane = plane_of b u xs c.give_adj.new.self in
    let after : IsPlane q = told_of q b u xs c.give_adj.new.self ds size refl rest c.tells.ensures c.give_adj.ensures.interned in
    let more : users_of rows o ≢ 1 = λ n. false≢true (c.if-not-give_adj.ensures.last.1 n) in
    let here : GaveRecord (plane_of b u xs rows) q o = record {
      gives = c.give_adj.ensures.given;
      shared = λ n. (refl, refl);
      swept = subst (λ (l : List (Option Object)). IsSwept b b l xs) (sym (given_same (plane_of b u xs rows) o more)) (swept_none b xs);
      spare = omega arith;
    } in
    let gave : GaveRecord p q o = subst (λ (v : Plane). GaveRecord v q o) is here in
    gave

pub drop_edge-requires-clause-live : goal.drop_edge-requires-clause-live
drop_edge-requires-clause-live g c =
    let p = c.args.self.now.plane in
    let b = c.self.inside.board in
    let u = c.self.inside.union in
    let xs = c.self.inside.pool in
    let rows = c.self.inside.table in
    let ds = c.self.inside.dying.items in
    let size = vec_capacity c.self.inside.dying in
    let o = c.args.object in
    let is = ap (λ (v : Whole). v.plane) c.self.view_is in
    let told : IsPlane p = told_of p b u xs rows ds size is c.self.invariant c.tells.ensures c.count.ensures.interned in
    let m = c.requires.record.0 in
    let e = c.requires.record.1 in
    let there : IsSome (kept_of rows o) = subst (λ (v : Plane). IsSome (kept_of v.records o)) (sym is) (ap is_some (record_down p.records told.interned m o e).1) in
    let held = (kept_held b xs rows o c.self.invariant.records there).0 in
    let other = (kept_held b xs rows o c.self.invariant.records there).1 in
    λ y f. (
    let live : IsLive xs o = omega arith in
    let same : o ≡ y = cc in
    subst (λ (z : ℕ). IsLive xs z) same live)

pub sweep-requires-clause-joined : goal.sweep-requires-clause-joined
sweep-requires-clause-joined g c =
    let p = c.args.self.now.plane in
    let b = c.self.inside.board in
    let u = c.self.inside.union in
    let xs = c.self.inside.pool in
    let rows = c.self.inside.table in
    let ds = c.self.inside.dying.items in
    let size = vec_capacity c.self.inside.dying in
    let o = c.args.object in
    let is = ap (λ (v : Whole). v.plane) c.self.view_is in
    let told : IsPlane p = told_of p b u xs rows ds size is c.self.invariant c.tells.ensures c.count.ensures.interned in
    let m = c.requires.record.0 in
    let e = c.requires.record.1 in
    let there : IsSome (kept_of rows o) = subst (λ (v : Plane). IsSome (kept_of v.records o)) (sym is) (ap is_some (record_down p.records told.interned m o e).1) in
    let held = (kept_held b xs rows o c.self.invariant.records there).0 in
    let other = (kept_held b xs rows o c.self.invariant.records there).1 in
    subst (λ (l : List (Option Object)). IsJoined b u l) (sym c.drop_edge.ensures.pool) (let_go_joined b u xs rows ds size c.self.invariant o held other)

pub sweep-requires-clause-dying : goal.sweep-requires-clause-dying
sweep-requires-clause-dying g c = c.drop_edge.ensures.dying [] (subst (λ (l : List ℕ). AreDying c.self.inside.pool l) (sym c.self.invariant.calm) c.self.invariant.none)

pub sweep-requires-clause-allowed : goal.sweep-requires-clause-allowed
sweep-requires-clause-allowed g c =
    let p = c.args.self.now.plane in
    let b = c.self.inside.board in
    let u = c.self.inside.union in
    let xs = c.self.inside.pool in
    let rows = c.self.inside.table in
    let ds = c.self.inside.dying.items in
    let size = vec_capacity c.self.inside.dying in
    let o = c.args.object in
    let is = ap (λ (v : Whole). v.plane) c.self.view_is in
    let told : IsPlane p = told_of p b u xs rows ds size is c.self.invariant c.tells.ensures c.count.ensures.interned in
    subst (λ (v : Plane). Allows v.board) (sym is) (allows_down p.board c.requires.promise.0)

pub sweep-requires-clause-serves : goal.sweep-requires-clause-serves
sweep-requires-clause-serves g c =
    let p = c.args.self.now.plane in
    let b = c.self.inside.board in
    let u = c.self.inside.union in
    let xs = c.self.inside.pool in
    let rows = c.self.inside.table in
    let ds = c.self.inside.dying.items in
    let size = vec_capacity c.self.inside.dying in
    let o = c.args.object in
    let is = ap (λ (v : Whole). v.plane) c.self.view_is in
    let told : IsPlane p = told_of p b u xs rows ds size is c.self.invariant c.tells.ensures c.count.ensures.interned in
    let m = c.requires.record.0 in
    let e = c.requires.record.1 in
    let there : IsSome (kept_of rows o) = subst (λ (v : Plane). IsSome (kept_of v.records o)) (sym is) (ap is_some (record_down p.records told.interned m o e).1) in
    let one : users_of rows o ≡ 1 = c.if-not-give_adj.ensures.last.0 refl in
    let may = c.requires.promise in
    let asked : HoldsPromise p.board (IsHeld p.board (given_objects p o)) = serves_down p may.1.0 may.1.1 (IsHeld p.board (given_objects p o)) (λ begun x y lasting at held. held_given p told m o e y held) in
    let before : HoldsPromise b (IsHeld b (given_objects (plane_of b u xs rows) o)) = subst (λ (v : Plane). HoldsPromise v.board (IsHeld v.board (given_objects v o))) (sym is) asked in
    subst (λ (l : List (Option Object)). HoldsPromise b (IsHeld b l)) (given_released (plane_of b u xs rows) o one ∙ sym c.drop_edge.ensures.pool) before

pub invariant_of-self-2 : goal.invariant_of-self-2
invariant_of-self-2 g c =
    let p = c.args.self.now.plane in
    let b = c.self.inside.board in
    let u = c.self.inside.union in
    let xs = c.self.inside.pool in
    let rows = c.self.inside.table in
    let ds = c.self.inside.dying.items in
    let size = vec_capacity c.self.inside.dying in
    let o = c.args.object in
    let is = ap (λ (v : Whole). v.plane) c.self.view_is in
    let told : IsPlane p = told_of p b u xs rows ds size is c.self.invariant c.tells.ensures c.count.ensures.interned in
    let m = c.requires.record.0 in
    let e = c.requires.record.1 in
    let there : IsSome (kept_of rows o) = subst (λ (v : Plane). IsSome (kept_of v.records o)) (sym is) (ap is_some (record_down p.records told.interned m o e).1) in
    let held = (kept_held b xs rows o c.self.invariant.records there).0 in
    let other = (kept_held b xs rows o c.self.invariant.records there).1 in
    let one : users_of rows o ≡ 1 = c.if-not-give_adj.ensures.last.0 refl in
    let new = c.sweep.new in
    let room : b.objects ≤ vec_capacity new.dying = omega (arith, c.self.invariant.roomy, c.drop_edge.ensures.room, c.sweep.ensures.room) in
    let live : IsLive xs o = omega arith in
    let records = records_forgotten b xs c.drop_edge.new.pool rows c.give_adj.new.self o c.self.invariant.records c.give_adj.ensures.given one live c.drop_edge.ensures.pool in
    let rest = swept_plane b new.board new.union c.drop_edge.new.pool new.pool c.give_adj.new.self new.dying.items (vec_capacity new.dying) c.sweep.ensures.swept c.self.invariant.acyclic c.sweep.ensures.joined c.sweep.ensures.dying c.sweep.ensures.empty room records in
    rest

pub invariant_of-self-inside-2 : goal.invariant_of-self-inside-2
invariant_of-self-inside-2 g c =
    let p = c.args.self.now.plane in
    let b = c.self.inside.board in
    let u = c.self.inside.union in
    let xs = c.self.inside.pool in
    let rows = c.self.inside.table in
    let ds = c.self.inside.dying.items in
    let size = vec_capacity c.self.inside.dying in
    let o = c.args.object in
    let is = ap (λ (v : Whole). v.plane) c.self.view_is in
    let told : IsPlane p = told_of p b u xs rows ds size is c.self.invariant c.tells.ensures c.count.ensures.interned in
    let m = c.requires.record.0 in
    let e = c.requires.record.1 in
    let there : IsSome (kept_of rows o) = subst (λ (v : Plane). IsSome (kept_of v.records o)) (sym is) (ap is_some (record_down p.records told.interned m o e).1) in
    let held = (kept_held b xs rows o c.self.invariant.records there).0 in
    let other = (kept_held b xs rows o c.self.invariant.records there).1 in
    let one : users_of rows o ≡ 1 = c.if-not-give_adj.ensures.last.0 refl in
    let new = c.sweep.new in
    let room : b.objects ≤ vec_capacity new.dying = omega (arith, c.self.invariant.roomy, c.drop_edge.ensures.room, c.sweep.ensures.room) in
    let live : IsLive xs o = omega arith in
    let records = records_forgotten b xs c.drop_edge.new.pool rows c.give_adj.new.self o c.self.invariant.records c.give_adj.ensures.given one live c.drop_edge.ensures.pool in
    let rest = swept_plane b new.board new.union c.drop_edge.new.pool new.pool c.give_adj.new.self new.dying.items (vec_capacity new.dying) c.sweep.ensures.swept c.self.invariant.acyclic c.sweep.ensures.joined c.sweep.ensures.dying c.sweep.ensures.empty room records in
    let q : Plane = plane_of new.board new.union new.pool c.give_adj.new.self in
    let after : IsPlane q = told_of q new.board new.union new.pool c.give_adj.new.self new.dying.items (vec_capacity new.dying) refl rest c.sweep.ensures.told c.give_adj.ensures.interned in
    let here : GaveRecord (plane_of b u xs rows) q o = record {
      gives = c.give_adj.ensures.given;
      shared = λ n. absurd (n one);
      swept = subst (λ (l : List (Option Object)). IsSwept b q.board l q.objects) (c.drop_edge.ensures.pool ∙ sym (given_released (plane_of b u xs rows) o one)) c.sweep.ensures.swept;
      spare = c.sweep.ensures.spare;
    } in
    let gave : GaveRecord p q o = subst (λ (v : Plane). GaveRecord v q o) is here in
    (gave_sound p q told after m o e gave c.args.self.now.sound, (gave_recorded p q told after m o e gave c.args.self.now.recorded, tt))

pub returns-clause-gave : goal.returns-clause-gave
returns-clause-gave g c =
    let p = c.args.self.now.plane in
    let b = c.self.inside.board in
    let u = c.self.inside.union in
    let xs = c.self.inside.pool in
    let rows = c.self.inside.table in
    let ds = c.self.inside.dying.items in
    let size = vec_capacity c.self.inside.dying in
    let o = c.args.object in
    let is = ap (λ (v : Whole). v.plane) c.self.view_is in
    let told : IsPlane p = told_of p b u xs rows ds size is c.self.invariant c.tells.ensures c.count.ensures.interned in
    let m = c.requires.record.0 in
    let e = c.requires.record.1 in
    let there : IsSome (kept_of rows o) = subst (λ (v : Plane). IsSome (kept_of v.records o)) (sym is) (ap is_some (record_down p.records told.interned m o e).1) in
    let held = (kept_held b xs rows o c.self.invariant.records there).0 in
    let other = (kept_held b xs rows o c.self.invariant.records there).1 in
    let one : users_of rows o ≡ 1 = c.if-not-give_adj.ensures.last.0 refl in
    let new = c.sweep.new in
    let room : b.objects ≤ vec_capacity new.dying = omega (arith, c.self.invariant.roomy, c.drop_edge.ensures.room, c.sweep.ensures.room) in
    let live : IsLive xs o = omega arith in
    let records = records_forgotten b xs c.drop_edge.new.pool rows c.give_adj.new.self o c.self.invariant.records c.give_adj.ensures.given one live c.drop_edge.ensures.pool in
    let rest = swept_plane b new.board new.union c.drop_edge.new.pool new.pool c.give_adj.new.self new.dying.items (vec_capacity new.dying) c.sweep.ensures.swept c.self.invariant.acyclic c.sweep.ensures.joined c.sweep.ensures.dying c.sweep.ensures.empty room records in
    let q : Plane = plane_of new.board new.union new.pool c.give_adj.new.self in
    let after : IsPlane q = told_of q new.board new.union new.pool c.give_adj.new.self new.dying.items (vec_capacity new.dying) refl rest c.sweep.ensures.told c.give_adj.ensures.interned in
    let here : GaveRecord (plane_of b u xs rows) q o = record {
      gives = c.give_adj.ensures.given;
      shared = λ n. absurd (n one);
      swept = subst (λ (l : List (Option Object)). IsSwept b q.board l q.objects) (c.drop_edge.ensures.pool ∙ sym (given_released (plane_of b u xs rows) o one)) c.sweep.ensures.swept;
      spare = c.sweep.ensures.spare;
    } in
    let gave : GaveRecord p q o = subst (λ (v : Plane). GaveRecord v q o) is here in
    λ n f. gave_seen p q told after n o f gave

pub returns-clause-promise : goal.returns-clause-promise
returns-clause-promise g c =
    let p = c.args.self.now.plane in
    let b = c.self.inside.board in
    let u = c.self.inside.union in
    let xs = c.self.inside.pool in
    let rows = c.self.inside.table in
    let ds = c.self.inside.dying.items in
    let size = vec_capacity c.self.inside.dying in
    let o = c.args.object in
    let is = ap (λ (v : Whole). v.plane) c.self.view_is in
    let told : IsPlane p = told_of p b u xs rows ds size is c.self.invariant c.tells.ensures c.count.ensures.interned in
    let m = c.requires.record.0 in
    let e = c.requires.record.1 in
    let there : IsSome (kept_of rows o) = subst (λ (v : Plane). IsSome (kept_of v.records o)) (sym is) (ap is_some (record_down p.records told.interned m o e).1) in
    let held = (kept_held b xs rows o c.self.invariant.records there).0 in
    let other = (kept_held b xs rows o c.self.invariant.records there).1 in
    let one : users_of rows o ≡ 1 = c.if-not-give_adj.ensures.last.0 refl in
    let new = c.sweep.new in
    let room : b.objects ≤ vec_capacity new.dying = omega (arith, c.self.invariant.roomy, c.drop_edge.ensures.room, c.sweep.ensures.room) in
    let live : IsLive xs o = omega arith in
    let records = records_forgotten b xs c.drop_edge.new.pool rows c.give_adj.new.self o c.self.invariant.records c.give_adj.ensures.given one live c.drop_edge.ensures.pool in
    let rest = swept_plane b new.board new.union c.drop_edge.new.pool new.pool c.give_adj.new.self new.dying.items (vec_capacity new.dying) c.sweep.ensures.swept c.self.invariant.acyclic c.sweep.ensures.joined c.sweep.ensures.dying c.sweep.ensures.empty room records in
    let q : Plane = plane_of new.board new.union new.pool c.give_adj.new.self in
    let after : IsPlane q = told_of q new.board new.union new.pool c.give_adj.new.self new.dying.items (vec_capacity new.dying) refl rest c.sweep.ensures.told c.give_adj.ensures.interned in
    let here : GaveRecord (plane_of b u xs rows) q o = record {
      gives = c.give_adj.ensures.given;
      shared = λ n. absurd (n one);
      swept = subst (λ (l : List (Option Object)). IsSwept b q.board l q.objects) (c.drop_edge.ensures.pool ∙ sym (given_released (plane_of b u xs rows) o one)) c.sweep.ensures.swept;
      spare = c.sweep.ensures.spare;
    } in
    let gave : GaveRecord p q o = subst (λ (v : Plane). GaveRecord v q o) is here in
    ap promise_of gave.swept.frame

pub returns-clause-plane : goal.returns-clause-plane
returns-clause-plane g c =
    let p = c.args.self.now.plane in
    let b = c.self.inside.board in
    let u = c.self.inside.union in
    let xs = c.self.inside.pool in
    let rows = c.self.inside.table in
    let ds = c.self.inside.dying.items in
    let size = vec_capacity c.self.inside.dying in
    let o = c.args.object in
    let is = ap (λ (v : Whole). v.plane) c.self.view_is in
    let told : IsPlane p = told_of p b u xs rows ds size is c.self.invariant c.tells.ensures c.count.ensures.interned in
    let m = c.requires.record.0 in
    let e = c.requires.record.1 in
    let there : IsSome (kept_of rows o) = subst (λ (v : Plane). IsSome (kept_of v.records o)) (sym is) (ap is_some (record_down p.records told.interned m o e).1) in
    let held = (kept_held b xs rows o c.self.invariant.records there).0 in
    let other = (kept_held b xs rows o c.self.invariant.records there).1 in
    let one : users_of rows o ≡ 1 = c.if-not-give_adj.ensures.last.0 refl in
    let new = c.sweep.new in
    let room : b.objects ≤ vec_capacity new.dying = omega (arith, c.self.invariant.roomy, c.drop_edge.ensures.room, c.sweep.ensures.room) in
    let live : IsLive xs o = omega arith in
    let records = records_forgotten b xs c.drop_edge.new.pool rows c.give_adj.new.self o c.self.invariant.records c.give_adj.ensures.given one live c.drop_edge.ensures.pool in
    let rest = swept_plane b new.board new.union c.drop_edge.new.pool new.pool c.give_adj.new.self new.dying.items (vec_capacity new.dying) c.sweep.ensures.swept c.self.invariant.acyclic c.sweep.ensures.joined c.sweep.ensures.dying c.sweep.ensures.empty room records in
    let q : Plane = plane_of new.board new.union new.pool c.give_adj.new.self in
    let after : IsPlane q = told_of q new.board new.union new.pool c.give_adj.new.self new.dying.items (vec_capacity new.dying) refl rest c.sweep.ensures.told c.give_adj.ensures.interned in
    let here : GaveRecord (plane_of b u xs rows) q o = record {
      gives = c.give_adj.ensures.given;
      shared = λ n. absurd (n one);
      swept = subst (λ (l : List (Option Object)). IsSwept b q.board l q.objects) (c.drop_edge.ensures.pool ∙ sym (given_released (plane_of b u xs rows) o one)) c.sweep.ensures.swept;
      spare = c.sweep.ensures.spare;
    } in
    let gave : GaveRecord p q o = subst (λ (v : Plane). GaveRecord v q o) is here in
    gave

pub returns-then-not-give_adj-clause-stores : goal.returns-then-not-give_adj-clause-stores
returns-then-not-give_adj-clause-stores g c =
    let p = c.args.self.now.plane in
    let b = c.self.inside.board in
    let u = c.self.inside.union in
    let xs = c.self.inside.pool in
    let rows = c.self.inside.table in
    let ds = c.self.inside.dying.items in
    let size = vec_capacity c.self.inside.dying in
    let o = c.args.object in
    let is = ap (λ (v : Whole). v.plane) c.self.view_is in
    let told : IsPlane p = told_of p b u xs rows ds size is c.self.invariant c.tells.ensures c.count.ensures.interned in
    let m = c.requires.record.0 in
    let e = c.requires.record.1 in
    let there : IsSome (kept_of rows o) = subst (λ (v : Plane). IsSome (kept_of v.records o)) (sym is) (ap is_some (record_down p.records told.interned m o e).1) in
    let rest = given_rest b u xs rows c.give_adj.new.self ds size o c.give_adj.ensures.given c.self.invariant in
    let q : Plane = plane_of b u xs c.give_adj.new.self in
    let after : IsPlane q = told_of q b u xs c.give_adj.new.self ds size refl rest c.tells.ensures c.give_adj.ensures.interned in
    let more : users_of rows o ≢ 1 = λ n. false≢true (c.if-not-give_adj.ensures.last.1 n) in
    let here : GaveRecord (plane_of b u xs rows) q o = record {
      gives = c.give_adj.ensures.given;
      shared = λ n. (refl, refl);
      swept = subst (λ (l : List (Option Object)). IsSwept b b l xs) (sym (given_same (plane_of b u xs rows) o more)) (swept_none b xs);
      spare = omega arith;
    } in
    let gave : GaveRecord p q o = subst (λ (v : Plane). GaveRecord v q o) is here in
    gave_stores p told c.args.self.now.recorded q after m o gave (gave_seen p q told after m o e gave)

pub returns-clause-stores : goal.returns-clause-stores
returns-clause-stores g c =
    let p = c.args.self.now.plane in
    let b = c.self.inside.board in
    let u = c.self.inside.union in
    let xs = c.self.inside.pool in
    let rows = c.self.inside.table in
    let ds = c.self.inside.dying.items in
    let size = vec_capacity c.self.inside.dying in
    let o = c.args.object in
    let is = ap (λ (v : Whole). v.plane) c.self.view_is in
    let told : IsPlane p = told_of p b u xs rows ds size is c.self.invariant c.tells.ensures c.count.ensures.interned in
    let m = c.requires.record.0 in
    let e = c.requires.record.1 in
    let there : IsSome (kept_of rows o) = subst (λ (v : Plane). IsSome (kept_of v.records o)) (sym is) (ap is_some (record_down p.records told.interned m o e).1) in
    let held = (kept_held b xs rows o c.self.invariant.records there).0 in
    let other = (kept_held b xs rows o c.self.invariant.records there).1 in
    let one : users_of rows o ≡ 1 = c.if-not-give_adj.ensures.last.0 refl in
    let new = c.sweep.new in
    let room : b.objects ≤ vec_capacity new.dying = omega (arith, c.self.invariant.roomy, c.drop_edge.ensures.room, c.sweep.ensures.room) in
    let live : IsLive xs o = omega arith in
    let records = records_forgotten b xs c.drop_edge.new.pool rows c.give_adj.new.self o c.self.invariant.records c.give_adj.ensures.given one live c.drop_edge.ensures.pool in
    let rest = swept_plane b new.board new.union c.drop_edge.new.pool new.pool c.give_adj.new.self new.dying.items (vec_capacity new.dying) c.sweep.ensures.swept c.self.invariant.acyclic c.sweep.ensures.joined c.sweep.ensures.dying c.sweep.ensures.empty room records in
    let q : Plane = plane_of new.board new.union new.pool c.give_adj.new.self in
    let after : IsPlane q = told_of q new.board new.union new.pool c.give_adj.new.self new.dying.items (vec_capacity new.dying) refl rest c.sweep.ensures.told c.give_adj.ensures.interned in
    let here : GaveRecord (plane_of b u xs rows) q o = record {
      gives = c.give_adj.ensures.given;
      shared = λ n. absurd (n one);
      swept = subst (λ (l : List (Option Object)). IsSwept b q.board l q.objects) (c.drop_edge.ensures.pool ∙ sym (given_released (plane_of b u xs rows) o one)) c.sweep.ensures.swept;
      spare = c.sweep.ensures.spare;
    } in
    let gave : GaveRecord p q o = subst (λ (v : Plane). GaveRecord v q o) is here in
    gave_stores p told c.args.self.now.recorded q after m o gave (gave_seen p q told after m o e gave)
