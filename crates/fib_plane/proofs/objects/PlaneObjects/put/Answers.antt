use Rattle.std.proofs.Common.{◌≡◌, ◌≢◌, ◌<◌, ◌+◌, ◌*◌, ◌∙◌, ℕ, Some, None, true, sym, ap, subst, refl, vec_capacity}
use Rattle.std.proofs.lemmas.Bool.{false≢true}
use Rattle.fib_base_interned.specs.Interned.{kept_of}
use Rattle.fib_pool.specs.Objects.{IsLive, at}
use Rattle.fib_core_board.specs.Boards.{edge_of, word_in}
use Rattle.fib_plane_view.specs.declared.put.Put.TheVariants as puts
use Rattle.fib_plane_view.specs.View.{HasKind}
use Rattle.fib_plane.specs.Planes.{Plane, leads_from}
use Rattle.fib_plane.specs.Puts.{Closes, IsPlanePut, MayPut}
use Rattle.fib_plane.specs.Sound.{IsPlane}
use Rattle.fib_plane.specs.Views.{Whole, is_ply_at, plane_of, view_of}
use Rattle.fib_plane.proofs.Resting.{change_rest, few_copies, may_rows, put_rows, told_of}
use Rattle.fib_plane.proofs.Views.Differing.{put_stores}
use Rattle.fib_plane.proofs.Views.Putting.{in_board, in_cells, may_put, put_promise, put_recorded, put_seen, put_sound, replaced_down, source, standing_unrecorded, target_down}
use Rattle.fib_plane.proofs.Dropping.{ply_of}
use Rattle.fib_plane.proofs.Views.Storing.{closes_up}
use Rattle.fib_plane.proofs.objects.PlaneObjects.put.Goals as goal

pub has_room-requires : goal.has_room-requires
has_room-requires g c = λ n e. subst (HasKind (view_of c.args.self.now.plane) c.args.object) e c.requires.kind

pub load-found-requires-clause-object : goal.load-found-requires-clause-object
load-found-requires-clause-object g c =
    let is = ap (λ (v : Whole). v.plane) c.self.view_is in
    let told : IsPlane c.args.self.now.plane = told_of c.args.self.now.plane c.self.inside.board c.self.inside.union c.self.inside.pool c.self.inside.table c.self.inside.dying.items (vec_capacity c.self.inside.dying) is c.self.invariant c.tells.ensures c.count.ensures.interned in
    subst (λ (v : Plane). c.args.object < v.board.objects) (sym is) (in_board c.args.self.now.plane told c.args.object c.requires.standing)

pub returns-then-same-clause-put : goal.returns-then-same-clause-put
returns-then-same-clause-put g c =
    let p = c.args.self.now.plane in
    let b = c.self.inside.board in
    let u = c.self.inside.union in
    let xs = c.self.inside.pool in
    let rows = c.self.inside.table in
    let is = ap (λ (v : Whole). v.plane) c.self.view_is in
    let told : IsPlane p = told_of p b u xs rows c.self.inside.dying.items (vec_capacity c.self.inside.dying) is c.self.invariant c.tells.ensures c.count.ensures.interned in
    let same : word_in b (16 * c.args.object + c.args.slot) ≡ c.args.word = sym c.load-found.ensures ∙ c.if-same.ensures.0 refl in
    put_seen p told c.args.self.now.sound c.args.object c.args.slot c.requires.slot c.requires.standing c.args.word c.has_room.ensures c.requires.kind c.requires.calm
    p told (few_copies p b u xs rows is c.self.invariant.joined) c.requires.target puts.Same (ap (λ (v : Plane). word_in v.board (16 * c.args.object + c.args.slot)) (sym is) ∙ same, refl)

pub change-requires-clause-may : goal.change-requires-clause-may
change-requires-clause-may g c =
    let p = c.args.self.now.plane in
    let b = c.self.inside.board in
    let u = c.self.inside.union in
    let xs = c.self.inside.pool in
    let rows = c.self.inside.table in
    let is = ap (λ (v : Whole). v.plane) c.self.view_is in
    let told : IsPlane p = told_of p b u xs rows c.self.inside.dying.items (vec_capacity c.self.inside.dying) is c.self.invariant c.tells.ensures c.count.ensures.interned in
    let may = may_put p told c.args.self.now.sound c.args.object c.args.slot c.requires.slot c.requires.standing c.args.word c.has_room.ensures c.requires.kind c.requires.calm c.requires.promise in
    may_rows b b u u xs xs rows (16 * c.args.object + c.args.slot) c.args.word (subst (λ (v : Plane). MayPut v (16 * c.args.object + c.args.slot) c.args.word) (sym is) may)

pub change-requires-clause-calm : goal.change-requires-clause-calm
change-requires-clause-calm g c =
    let p = c.args.self.now.plane in
    let b = c.self.inside.board in
    let u = c.self.inside.union in
    let xs = c.self.inside.pool in
    let rows = c.self.inside.table in
    let is = ap (λ (v : Whole). v.plane) c.self.view_is in
    let told : IsPlane p = told_of p b u xs rows c.self.inside.dying.items (vec_capacity c.self.inside.dying) is c.self.invariant c.tells.ensures c.count.ensures.interned in
    λ ply closes. c.requires.calm (ply_of p.objects c.args.object (subst (λ (v : Plane). is_ply_at (at v.objects c.args.object) ≡ true) is ply))
    (closes_up p c.args.object c.args.slot c.requires.slot c.args.word c.has_room.ensures told (subst (λ (v : Plane). Closes v.board (16 * c.args.object + c.args.slot) c.args.word) is closes))

pub change-requires-clause-source : goal.change-requires-clause-source
change-requires-clause-source g c =
    let p = c.args.self.now.plane in
    let b = c.self.inside.board in
    let u = c.self.inside.union in
    let xs = c.self.inside.pool in
    let rows = c.self.inside.table in
    let is = ap (λ (v : Whole). v.plane) c.self.view_is in
    let told : IsPlane p = told_of p b u xs rows c.self.inside.dying.items (vec_capacity c.self.inside.dying) is c.self.invariant c.tells.ensures c.count.ensures.interned in
    subst (λ (v : Plane). IsLive v.objects c.args.object) (sym is) (source p told c.args.object c.requires.standing)

pub change-requires-clause-target : goal.change-requires-clause-target
change-requires-clause-target g c =
    let p = c.args.self.now.plane in
    let b = c.self.inside.board in
    let u = c.self.inside.union in
    let xs = c.self.inside.pool in
    let rows = c.self.inside.table in
    let is = ap (λ (v : Whole). v.plane) c.self.view_is in
    let told : IsPlane p = told_of p b u xs rows c.self.inside.dying.items (vec_capacity c.self.inside.dying) is c.self.invariant c.tells.ensures c.count.ensures.interned in
    subst (λ (v : Plane). (y : ℕ) → edge_of c.args.word ≡ Some y → IsLive v.objects y) (sym is) (target_down p told c.args.word c.has_room.ensures c.requires.target)

pub change-requires-clause-spare : goal.change-requires-clause-spare
change-requires-clause-spare g c =
    let p = c.args.self.now.plane in
    let b = c.self.inside.board in
    let u = c.self.inside.union in
    let xs = c.self.inside.pool in
    let rows = c.self.inside.table in
    let is = ap (λ (v : Whole). v.plane) c.self.view_is in
    let told : IsPlane p = told_of p b u xs rows c.self.inside.dying.items (vec_capacity c.self.inside.dying) is c.self.invariant c.tells.ensures c.count.ensures.interned in
    subst (λ (v : Plane). (y : ℕ) → leads_from v.board (16 * c.args.object + c.args.slot) ≡ Some y → 0 < v.spare) (sym is) (λ y e. c.requires.spare y (replaced_down p c.args.object c.args.slot c.requires.slot y e))

pub invariant_of-self : goal.invariant_of-self
invariant_of-self g c =
    let p = c.args.self.now.plane in
    let b = c.self.inside.board in
    let u = c.self.inside.union in
    let xs = c.self.inside.pool in
    let rows = c.self.inside.table in
    let is = ap (λ (v : Whole). v.plane) c.self.view_is in
    let told : IsPlane p = told_of p b u xs rows c.self.inside.dying.items (vec_capacity c.self.inside.dying) is c.self.invariant c.tells.ensures c.count.ensures.interned in
    let n = c.change.new in
    let e = c.change.ensures in
    let k : ℕ = 16 * c.args.object + c.args.slot in
    let source = subst (λ (v : Plane). IsLive v.objects c.args.object) (sym is) (source p told c.args.object c.requires.standing) in
    let target = subst (λ (v : Plane). (y : ℕ) → edge_of c.args.word ≡ Some y → IsLive v.objects y) (sym is) (target_down p told c.args.word c.has_room.ensures c.requires.target) in
    let apart = subst (λ (v : Plane). kept_of v.records c.args.object ≡ None) (sym is) (standing_unrecorded p told c.args.object c.requires.standing) in
    let other : word_in b k ≢ c.args.word = λ q. false≢true (c.if-same.ensures.1 (c.load-found.ensures ∙ q)) in
    let rest = change_rest b n.board u n.union xs n.pool rows c.self.inside.dying.items n.dying.items (vec_capacity c.self.inside.dying) (vec_capacity n.dying) c.args.object c.args.slot c.args.word c.change.result
    c.self.invariant c.requires.slot source target apart other e.put e.joined e.acyclic e.none e.empty e.roomy in
    rest

pub invariant_of-self-inside : goal.invariant_of-self-inside
invariant_of-self-inside g c =
    let p = c.args.self.now.plane in
    let b = c.self.inside.board in
    let u = c.self.inside.union in
    let xs = c.self.inside.pool in
    let rows = c.self.inside.table in
    let is = ap (λ (v : Whole). v.plane) c.self.view_is in
    let told : IsPlane p = told_of p b u xs rows c.self.inside.dying.items (vec_capacity c.self.inside.dying) is c.self.invariant c.tells.ensures c.count.ensures.interned in
    let n = c.change.new in
    let e = c.change.ensures in
    let k : ℕ = 16 * c.args.object + c.args.slot in
    let source = subst (λ (v : Plane). IsLive v.objects c.args.object) (sym is) (source p told c.args.object c.requires.standing) in
    let target = subst (λ (v : Plane). (y : ℕ) → edge_of c.args.word ≡ Some y → IsLive v.objects y) (sym is) (target_down p told c.args.word c.has_room.ensures c.requires.target) in
    let apart = subst (λ (v : Plane). kept_of v.records c.args.object ≡ None) (sym is) (standing_unrecorded p told c.args.object c.requires.standing) in
    let other : word_in b k ≢ c.args.word = λ q. false≢true (c.if-same.ensures.1 (c.load-found.ensures ∙ q)) in
    let rest = change_rest b n.board u n.union xs n.pool rows c.self.inside.dying.items n.dying.items (vec_capacity c.self.inside.dying) (vec_capacity n.dying) c.args.object c.args.slot c.args.word c.change.result
    c.self.invariant c.requires.slot source target apart other e.put e.joined e.acyclic e.none e.empty e.roomy in
    let q : Plane = plane_of n.board n.union n.pool rows in
    let after : IsPlane q = told_of q n.board n.union n.pool rows n.dying.items (vec_capacity n.dying) refl rest e.told c.count.ensures.interned in
    let put = subst (λ (v : Plane). IsPlanePut v q k c.args.word c.change.result) is (put_rows b n.board u n.union xs n.pool rows k c.args.word c.change.result e.put) in (
      put_sound p told c.args.self.now.sound c.args.object c.args.slot c.requires.slot c.requires.standing c.args.word c.has_room.ensures c.requires.kind c.requires.calm
          q after (few_copies p b u xs rows is c.self.invariant.joined) c.requires.target c.change.result put,
      (
        put_recorded p told c.args.self.now.sound c.args.object c.args.slot c.requires.slot c.requires.standing c.args.word c.has_room.ensures c.requires.kind c.requires.calm
            q after (few_copies p b u xs rows is c.self.invariant.joined) c.requires.target c.args.self.now.recorded c.change.result put,
        tt,
      ),
    )

pub returns-clause-put : goal.returns-clause-put
returns-clause-put g c =
    let p = c.args.self.now.plane in
    let b = c.self.inside.board in
    let u = c.self.inside.union in
    let xs = c.self.inside.pool in
    let rows = c.self.inside.table in
    let is = ap (λ (v : Whole). v.plane) c.self.view_is in
    let told : IsPlane p = told_of p b u xs rows c.self.inside.dying.items (vec_capacity c.self.inside.dying) is c.self.invariant c.tells.ensures c.count.ensures.interned in
    let n = c.change.new in
    let e = c.change.ensures in
    let k : ℕ = 16 * c.args.object + c.args.slot in
    let source = subst (λ (v : Plane). IsLive v.objects c.args.object) (sym is) (source p told c.args.object c.requires.standing) in
    let target = subst (λ (v : Plane). (y : ℕ) → edge_of c.args.word ≡ Some y → IsLive v.objects y) (sym is) (target_down p told c.args.word c.has_room.ensures c.requires.target) in
    let apart = subst (λ (v : Plane). kept_of v.records c.args.object ≡ None) (sym is) (standing_unrecorded p told c.args.object c.requires.standing) in
    let other : word_in b k ≢ c.args.word = λ q. false≢true (c.if-same.ensures.1 (c.load-found.ensures ∙ q)) in
    let rest = change_rest b n.board u n.union xs n.pool rows c.self.inside.dying.items n.dying.items (vec_capacity c.self.inside.dying) (vec_capacity n.dying) c.args.object c.args.slot c.args.word c.change.result
    c.self.invariant c.requires.slot source target apart other e.put e.joined e.acyclic e.none e.empty e.roomy in
    let q : Plane = plane_of n.board n.union n.pool rows in
    let after : IsPlane q = told_of q n.board n.union n.pool rows n.dying.items (vec_capacity n.dying) refl rest e.told c.count.ensures.interned in
    let put = subst (λ (v : Plane). IsPlanePut v q k c.args.word c.change.result) is (put_rows b n.board u n.union xs n.pool rows k c.args.word c.change.result e.put) in
    put_seen p told c.args.self.now.sound c.args.object c.args.slot c.requires.slot c.requires.standing c.args.word c.has_room.ensures c.requires.kind c.requires.calm
    q after (few_copies p b u xs rows is c.self.invariant.joined) c.requires.target c.change.result put

pub returns-clause-promise : goal.returns-clause-promise
returns-clause-promise g c =
    let p = c.args.self.now.plane in
    let b = c.self.inside.board in
    let u = c.self.inside.union in
    let xs = c.self.inside.pool in
    let rows = c.self.inside.table in
    let is = ap (λ (v : Whole). v.plane) c.self.view_is in
    let told : IsPlane p = told_of p b u xs rows c.self.inside.dying.items (vec_capacity c.self.inside.dying) is c.self.invariant c.tells.ensures c.count.ensures.interned in
    let n = c.change.new in
    let e = c.change.ensures in
    let k : ℕ = 16 * c.args.object + c.args.slot in
    let source = subst (λ (v : Plane). IsLive v.objects c.args.object) (sym is) (source p told c.args.object c.requires.standing) in
    let target = subst (λ (v : Plane). (y : ℕ) → edge_of c.args.word ≡ Some y → IsLive v.objects y) (sym is) (target_down p told c.args.word c.has_room.ensures c.requires.target) in
    let apart = subst (λ (v : Plane). kept_of v.records c.args.object ≡ None) (sym is) (standing_unrecorded p told c.args.object c.requires.standing) in
    let other : word_in b k ≢ c.args.word = λ q. false≢true (c.if-same.ensures.1 (c.load-found.ensures ∙ q)) in
    let rest = change_rest b n.board u n.union xs n.pool rows c.self.inside.dying.items n.dying.items (vec_capacity c.self.inside.dying) (vec_capacity n.dying) c.args.object c.args.slot c.args.word c.change.result
    c.self.invariant c.requires.slot source target apart other e.put e.joined e.acyclic e.none e.empty e.roomy in
    let q : Plane = plane_of n.board n.union n.pool rows in
    let after : IsPlane q = told_of q n.board n.union n.pool rows n.dying.items (vec_capacity n.dying) refl rest e.told c.count.ensures.interned in
    let put = subst (λ (v : Plane). IsPlanePut v q k c.args.word c.change.result) is (put_rows b n.board u n.union xs n.pool rows k c.args.word c.change.result e.put) in
    put_promise p told c.args.self.now.sound c.args.object c.args.slot c.requires.slot c.requires.standing c.args.word c.has_room.ensures c.requires.kind c.requires.calm
    q after (few_copies p b u xs rows is c.self.invariant.joined) c.requires.target c.change.result put

pub returns-clause-plane : goal.returns-clause-plane
returns-clause-plane g c =
    let p = c.args.self.now.plane in
    let b = c.self.inside.board in
    let u = c.self.inside.union in
    let xs = c.self.inside.pool in
    let rows = c.self.inside.table in
    let is = ap (λ (v : Whole). v.plane) c.self.view_is in
    let told : IsPlane p = told_of p b u xs rows c.self.inside.dying.items (vec_capacity c.self.inside.dying) is c.self.invariant c.tells.ensures c.count.ensures.interned in
    let n = c.change.new in
    let e = c.change.ensures in
    let k : ℕ = 16 * c.args.object + c.args.slot in
    let source = subst (λ (v : Plane). IsLive v.objects c.args.object) (sym is) (source p told c.args.object c.requires.standing) in
    let target = subst (λ (v : Plane). (y : ℕ) → edge_of c.args.word ≡ Some y → IsLive v.objects y) (sym is) (target_down p told c.args.word c.has_room.ensures c.requires.target) in
    let apart = subst (λ (v : Plane). kept_of v.records c.args.object ≡ None) (sym is) (standing_unrecorded p told c.args.object c.requires.standing) in
    let other : word_in b k ≢ c.args.word = λ q. false≢true (c.if-same.ensures.1 (c.load-found.ensures ∙ q)) in
    let rest = change_rest b n.board u n.union xs n.pool rows c.self.inside.dying.items n.dying.items (vec_capacity c.self.inside.dying) (vec_capacity n.dying) c.args.object c.args.slot c.args.word c.change.result
    c.self.invariant c.requires.slot source target apart other e.put e.joined e.acyclic e.none e.empty e.roomy in
    let q : Plane = plane_of n.board n.union n.pool rows in
    let after : IsPlane q = told_of q n.board n.union n.pool rows n.dying.items (vec_capacity n.dying) refl rest e.told c.count.ensures.interned in
    let put = subst (λ (v : Plane). IsPlanePut v q k c.args.word c.change.result) is (put_rows b n.board u n.union xs n.pool rows k c.args.word c.change.result e.put) in
    put

pub returns-then-same-clause-stores : goal.returns-then-same-clause-stores
returns-then-same-clause-stores g c =
    let p = c.args.self.now.plane in
    let b = c.self.inside.board in
    let u = c.self.inside.union in
    let xs = c.self.inside.pool in
    let rows = c.self.inside.table in
    let is = ap (λ (v : Whole). v.plane) c.self.view_is in
    let told : IsPlane p = told_of p b u xs rows c.self.inside.dying.items (vec_capacity c.self.inside.dying) is c.self.invariant c.tells.ensures c.count.ensures.interned in
    let same : word_in b (16 * c.args.object + c.args.slot) ≡ c.args.word = sym c.load-found.ensures ∙ c.if-same.ensures.0 refl in
    put_stores p told c.args.self.now.recorded p told c.args.object c.args.slot c.requires.slot (in_cells p told c.args.object c.requires.standing c.args.slot c.requires.slot) c.args.word c.has_room.ensures puts.Same (ap (λ (v : Plane). word_in v.board (16 * c.args.object + c.args.slot)) (sym is) ∙ same, refl) (returns-then-same-clause-put g c)

pub returns-clause-stores : goal.returns-clause-stores
returns-clause-stores g c =
    let p = c.args.self.now.plane in
    let b = c.self.inside.board in
    let u = c.self.inside.union in
    let xs = c.self.inside.pool in
    let rows = c.self.inside.table in
    let is = ap (λ (v : Whole). v.plane) c.self.view_is in
    let told : IsPlane p = told_of p b u xs rows c.self.inside.dying.items (vec_capacity c.self.inside.dying) is c.self.invariant c.tells.ensures c.count.ensures.interned in
    let n = c.change.new in
    let e = c.change.ensures in
    let k : ℕ = 16 * c.args.object + c.args.slot in
    let source = subst (λ (v : Plane). IsLive v.objects c.args.object) (sym is) (source p told c.args.object c.requires.standing) in
    let target = subst (λ (v : Plane). (y : ℕ) → edge_of c.args.word ≡ Some y → IsLive v.objects y) (sym is) (target_down p told c.args.word c.has_room.ensures c.requires.target) in
    let apart = subst (λ (v : Plane). kept_of v.records c.args.object ≡ None) (sym is) (standing_unrecorded p told c.args.object c.requires.standing) in
    let other : word_in b k ≢ c.args.word = λ q. false≢true (c.if-same.ensures.1 (c.load-found.ensures ∙ q)) in
    let rest = change_rest b n.board u n.union xs n.pool rows c.self.inside.dying.items n.dying.items (vec_capacity c.self.inside.dying) (vec_capacity n.dying) c.args.object c.args.slot c.args.word c.change.result
    c.self.invariant c.requires.slot source target apart other e.put e.joined e.acyclic e.none e.empty e.roomy in
    let q : Plane = plane_of n.board n.union n.pool rows in
    let after : IsPlane q = told_of q n.board n.union n.pool rows n.dying.items (vec_capacity n.dying) refl rest e.told c.count.ensures.interned in
    let put = subst (λ (v : Plane). IsPlanePut v q k c.args.word c.change.result) is (put_rows b n.board u n.union xs n.pool rows k c.args.word c.change.result e.put) in
    put_stores p told c.args.self.now.recorded q after c.args.object c.args.slot c.requires.slot (in_cells p told c.args.object c.requires.standing c.args.slot c.requires.slot) c.args.word c.has_room.ensures c.change.result put (returns-clause-put g c)
