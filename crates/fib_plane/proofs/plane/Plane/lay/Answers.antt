use Rattle.std.proofs.Common.{◌≡◌, ◌≢◌, ◌<◌, ◌≤◌, ◌+◌, ◌*◌, ◌∙◌, ℕ, Some, None, inr, sym, ap, subst, refl, vec_capacity}
use Rattle.fib_base_interned.specs.Interned.{kept_of}
use Rattle.fib_pool.specs.Objects.{IsLive}
use Rattle.fib_core.specs.declared.word.Word.TheVariants as words
use Rattle.fib_core_board.specs.Boards.{Board, board_stored, edge_of, word_in}
use Rattle.fib_plane_view.specs.declared.put.Put.TheVariants as puts
use Rattle.fib_plane_view.specs.View.{HasKind}
use Rattle.fib_plane.specs.Planes.{Plane}
use Rattle.fib_plane.specs.Puts.{Closes, IsPlanePut, MayPut}
use Rattle.fib_plane.specs.Sound.{IsPlane}
use Rattle.fib_plane.specs.Views.{Whole, plane_of, view_of}
use Rattle.fib_plane.proofs.Resting.{change_rest, few_copies, may_rows, put_rows, told_of}
use Rattle.fib_plane.proofs.Views.Differing.{laid_stores}
use Rattle.fib_plane.proofs.Views.Putting.{in_cells, may_put, put_promise, put_recorded, put_seen, put_sound, source, standing_unrecorded, target_down}
use Rattle.fib_plane.proofs.Views.Seeing.{cell_is}
use Rattle.fib_plane.proofs.Views.Storing.{closes_up}
use Rattle.fib_plane.proofs.plane.Plane.lay.Goals as goal

pub has_room-requires : goal.has_room-requires
has_room-requires g c = λ n e. subst (HasKind (view_of c.args.self.now.plane) c.args.object) e c.requires.kind

pub lay-requires-clause-empty : goal.lay-requires-clause-empty
lay-requires-clause-empty g c =
    let p = c.args.self.now.plane in
    let is = ap (λ (v : Whole). v.plane) c.self.view_is in
    ap (λ (v : Plane). word_in v.board (16 * c.args.object + c.args.slot)) is ∙ (sym (cell_is p.board c.args.object c.args.slot c.requires.slot) ∙ c.requires.empty)

pub lay-requires-clause-far : goal.lay-requires-clause-far
lay-requires-clause-far g c = λ closes.
    (let p = c.args.self.now.plane in
    let b = c.self.inside.board in
    let u = c.self.inside.union in
    let xs = c.self.inside.pool in
    let rows = c.self.inside.table in
    let is = ap (λ (v : Whole). v.plane) c.self.view_is in
    let told : IsPlane p = told_of p b u xs rows c.self.inside.dying.items (vec_capacity c.self.inside.dying) is c.self.invariant c.tells.ensures c.count.ensures.interned in
    let k : ℕ = 16 * c.args.object + c.args.slot in
    c.requires.far (closes_up p c.args.object c.args.slot c.requires.slot c.args.word c.has_room.ensures told (subst (λ (v : Plane). Closes v.board k c.args.word) is closes)))

pub lay-requires-clause-may : goal.lay-requires-clause-may
lay-requires-clause-may g c =
    let p = c.args.self.now.plane in
    let b = c.self.inside.board in
    let u = c.self.inside.union in
    let xs = c.self.inside.pool in
    let rows = c.self.inside.table in
    let is = ap (λ (v : Whole). v.plane) c.self.view_is in
    let told : IsPlane p = told_of p b u xs rows c.self.inside.dying.items (vec_capacity c.self.inside.dying) is c.self.invariant c.tells.ensures c.count.ensures.interned in
    let may = may_put p told c.args.self.now.sound c.args.object c.args.slot c.requires.slot (inr c.requires.held) c.args.word c.has_room.ensures c.requires.kind (λ is_ply closes. c.requires.far closes) c.requires.promise in
    may_rows b b u u xs xs rows (16 * c.args.object + c.args.slot) c.args.word (subst (λ (v : Plane). MayPut v (16 * c.args.object + c.args.slot) c.args.word) (sym is) may)

pub lay-requires-clause-source : goal.lay-requires-clause-source
lay-requires-clause-source g c =
    let p = c.args.self.now.plane in
    let b = c.self.inside.board in
    let u = c.self.inside.union in
    let xs = c.self.inside.pool in
    let rows = c.self.inside.table in
    let is = ap (λ (v : Whole). v.plane) c.self.view_is in
    let told : IsPlane p = told_of p b u xs rows c.self.inside.dying.items (vec_capacity c.self.inside.dying) is c.self.invariant c.tells.ensures c.count.ensures.interned in
    subst (λ (v : Plane). IsLive v.objects c.args.object) (sym is) (source p told c.args.object (inr c.requires.held))

pub lay-requires-clause-target : goal.lay-requires-clause-target
lay-requires-clause-target g c =
    let p = c.args.self.now.plane in
    let b = c.self.inside.board in
    let u = c.self.inside.union in
    let xs = c.self.inside.pool in
    let rows = c.self.inside.table in
    let is = ap (λ (v : Whole). v.plane) c.self.view_is in
    let told : IsPlane p = told_of p b u xs rows c.self.inside.dying.items (vec_capacity c.self.inside.dying) is c.self.invariant c.tells.ensures c.count.ensures.interned in
    subst (λ (v : Plane). (y : ℕ) → edge_of c.args.word ≡ Some y → IsLive v.objects y) (sym is) (target_down p told c.args.word c.has_room.ensures c.requires.target)

pub invariant_of-self : goal.invariant_of-self
invariant_of-self g c =
    let p = c.args.self.now.plane in
    let b = c.self.inside.board in
    let u = c.self.inside.union in
    let xs = c.self.inside.pool in
    let rows = c.self.inside.table in
    let is = ap (λ (v : Whole). v.plane) c.self.view_is in
    let told : IsPlane p = told_of p b u xs rows c.self.inside.dying.items (vec_capacity c.self.inside.dying) is c.self.invariant c.tells.ensures c.count.ensures.interned in
    let n = c.lay.new in
    let e = c.lay.ensures in
    let k : ℕ = 16 * c.args.object + c.args.slot in
    let source = subst (λ (v : Plane). IsLive v.objects c.args.object) (sym is) (source p told c.args.object (inr c.requires.held)) in
    let target = subst (λ (v : Plane). (y : ℕ) → edge_of c.args.word ≡ Some y → IsLive v.objects y) (sym is) (target_down p told c.args.word c.has_room.ensures c.requires.target) in
    let apart = subst (λ (v : Plane). kept_of v.records c.args.object ≡ None) (sym is) (standing_unrecorded p told c.args.object (inr c.requires.held)) in
    let roomy : n.board.objects ≤ vec_capacity c.self.inside.dying = subst (λ (a : Board). a.objects ≤ vec_capacity c.self.inside.dying) (sym e.board) c.self.invariant.roomy in
    let rest = change_rest b n.board u n.union xs n.pool rows c.self.inside.dying.items c.self.inside.dying.items (vec_capacity c.self.inside.dying) (vec_capacity c.self.inside.dying) c.args.object c.args.slot c.args.word puts.Stored
    c.self.invariant c.requires.slot source target apart e.put.0 e.put e.joined e.acyclic e.none c.self.invariant.calm roomy in
    rest

pub invariant_of-self-inside : goal.invariant_of-self-inside
invariant_of-self-inside g c =
    let p = c.args.self.now.plane in
    let b = c.self.inside.board in
    let u = c.self.inside.union in
    let xs = c.self.inside.pool in
    let rows = c.self.inside.table in
    let is = ap (λ (v : Whole). v.plane) c.self.view_is in
    let told : IsPlane p = told_of p b u xs rows c.self.inside.dying.items (vec_capacity c.self.inside.dying) is c.self.invariant c.tells.ensures c.count.ensures.interned in
    let n = c.lay.new in
    let e = c.lay.ensures in
    let k : ℕ = 16 * c.args.object + c.args.slot in
    let source = subst (λ (v : Plane). IsLive v.objects c.args.object) (sym is) (source p told c.args.object (inr c.requires.held)) in
    let target = subst (λ (v : Plane). (y : ℕ) → edge_of c.args.word ≡ Some y → IsLive v.objects y) (sym is) (target_down p told c.args.word c.has_room.ensures c.requires.target) in
    let apart = subst (λ (v : Plane). kept_of v.records c.args.object ≡ None) (sym is) (standing_unrecorded p told c.args.object (inr c.requires.held)) in
    let roomy : n.board.objects ≤ vec_capacity c.self.inside.dying = subst (λ (a : Board). a.objects ≤ vec_capacity c.self.inside.dying) (sym e.board) c.self.invariant.roomy in
    let rest = change_rest b n.board u n.union xs n.pool rows c.self.inside.dying.items c.self.inside.dying.items (vec_capacity c.self.inside.dying) (vec_capacity c.self.inside.dying) c.args.object c.args.slot c.args.word puts.Stored
    c.self.invariant c.requires.slot source target apart e.put.0 e.put e.joined e.acyclic e.none c.self.invariant.calm roomy in
    let q : Plane = plane_of n.board n.union n.pool rows in
    let after : IsPlane q = told_of q n.board n.union n.pool rows c.self.inside.dying.items (vec_capacity c.self.inside.dying) refl rest e.told c.count.ensures.interned in
    let put = subst (λ (v : Plane). IsPlanePut v q k c.args.word puts.Stored) is (put_rows b n.board u n.union xs n.pool rows k c.args.word puts.Stored e.put) in (
      put_sound p told c.args.self.now.sound c.args.object c.args.slot c.requires.slot (inr c.requires.held) c.args.word c.has_room.ensures c.requires.kind (λ is_ply closes. c.requires.far closes)
          q after (few_copies p b u xs rows is c.self.invariant.joined) c.requires.target puts.Stored put,
      (
        put_recorded p told c.args.self.now.sound c.args.object c.args.slot c.requires.slot (inr c.requires.held) c.args.word c.has_room.ensures c.requires.kind (λ is_ply closes. c.requires.far closes)
            q after (few_copies p b u xs rows is c.self.invariant.joined) c.requires.target c.args.self.now.recorded puts.Stored put,
        tt,
      ),
    )

pub returns-clause-put : goal.returns-clause-put
returns-clause-put g c =
    let p = c.args.self.now.plane in
    let b = c.self.inside.board in
    let u = c.self.inside.union in
    let xs = c.self.inside.pool in
    let rows = c.self.inside.table in
    let is = ap (λ (v : Whole). v.plane) c.self.view_is in
    let told : IsPlane p = told_of p b u xs rows c.self.inside.dying.items (vec_capacity c.self.inside.dying) is c.self.invariant c.tells.ensures c.count.ensures.interned in
    let n = c.lay.new in
    let e = c.lay.ensures in
    let k : ℕ = 16 * c.args.object + c.args.slot in
    let source = subst (λ (v : Plane). IsLive v.objects c.args.object) (sym is) (source p told c.args.object (inr c.requires.held)) in
    let target = subst (λ (v : Plane). (y : ℕ) → edge_of c.args.word ≡ Some y → IsLive v.objects y) (sym is) (target_down p told c.args.word c.has_room.ensures c.requires.target) in
    let apart = subst (λ (v : Plane). kept_of v.records c.args.object ≡ None) (sym is) (standing_unrecorded p told c.args.object (inr c.requires.held)) in
    let roomy : n.board.objects ≤ vec_capacity c.self.inside.dying = subst (λ (a : Board). a.objects ≤ vec_capacity c.self.inside.dying) (sym e.board) c.self.invariant.roomy in
    let rest = change_rest b n.board u n.union xs n.pool rows c.self.inside.dying.items c.self.inside.dying.items (vec_capacity c.self.inside.dying) (vec_capacity c.self.inside.dying) c.args.object c.args.slot c.args.word puts.Stored
    c.self.invariant c.requires.slot source target apart e.put.0 e.put e.joined e.acyclic e.none c.self.invariant.calm roomy in
    let q : Plane = plane_of n.board n.union n.pool rows in
    let after : IsPlane q = told_of q n.board n.union n.pool rows c.self.inside.dying.items (vec_capacity c.self.inside.dying) refl rest e.told c.count.ensures.interned in
    let put = subst (λ (v : Plane). IsPlanePut v q k c.args.word puts.Stored) is (put_rows b n.board u n.union xs n.pool rows k c.args.word puts.Stored e.put) in
    put_seen p told c.args.self.now.sound c.args.object c.args.slot c.requires.slot (inr c.requires.held) c.args.word c.has_room.ensures c.requires.kind (λ is_ply closes. c.requires.far closes)
    q after (few_copies p b u xs rows is c.self.invariant.joined) c.requires.target puts.Stored put

pub returns-clause-promise : goal.returns-clause-promise
returns-clause-promise g c =
    let p = c.args.self.now.plane in
    let b = c.self.inside.board in
    let u = c.self.inside.union in
    let xs = c.self.inside.pool in
    let rows = c.self.inside.table in
    let is = ap (λ (v : Whole). v.plane) c.self.view_is in
    let told : IsPlane p = told_of p b u xs rows c.self.inside.dying.items (vec_capacity c.self.inside.dying) is c.self.invariant c.tells.ensures c.count.ensures.interned in
    let n = c.lay.new in
    let e = c.lay.ensures in
    let k : ℕ = 16 * c.args.object + c.args.slot in
    let source = subst (λ (v : Plane). IsLive v.objects c.args.object) (sym is) (source p told c.args.object (inr c.requires.held)) in
    let target = subst (λ (v : Plane). (y : ℕ) → edge_of c.args.word ≡ Some y → IsLive v.objects y) (sym is) (target_down p told c.args.word c.has_room.ensures c.requires.target) in
    let apart = subst (λ (v : Plane). kept_of v.records c.args.object ≡ None) (sym is) (standing_unrecorded p told c.args.object (inr c.requires.held)) in
    let roomy : n.board.objects ≤ vec_capacity c.self.inside.dying = subst (λ (a : Board). a.objects ≤ vec_capacity c.self.inside.dying) (sym e.board) c.self.invariant.roomy in
    let rest = change_rest b n.board u n.union xs n.pool rows c.self.inside.dying.items c.self.inside.dying.items (vec_capacity c.self.inside.dying) (vec_capacity c.self.inside.dying) c.args.object c.args.slot c.args.word puts.Stored
    c.self.invariant c.requires.slot source target apart e.put.0 e.put e.joined e.acyclic e.none c.self.invariant.calm roomy in
    let q : Plane = plane_of n.board n.union n.pool rows in
    let after : IsPlane q = told_of q n.board n.union n.pool rows c.self.inside.dying.items (vec_capacity c.self.inside.dying) refl rest e.told c.count.ensures.interned in
    let put = subst (λ (v : Plane). IsPlanePut v q k c.args.word puts.Stored) is (put_rows b n.board u n.union xs n.pool rows k c.args.word puts.Stored e.put) in
    put_promise p told c.args.self.now.sound c.args.object c.args.slot c.requires.slot (inr c.requires.held) c.args.word c.has_room.ensures c.requires.kind (λ is_ply closes. c.requires.far closes)
    q after (few_copies p b u xs rows is c.self.invariant.joined) c.requires.target puts.Stored put

pub returns-clause-stores : goal.returns-clause-stores
returns-clause-stores g c =
    let p = c.args.self.now.plane in
    let b = c.self.inside.board in
    let u = c.self.inside.union in
    let xs = c.self.inside.pool in
    let rows = c.self.inside.table in
    let is = ap (λ (v : Whole). v.plane) c.self.view_is in
    let told : IsPlane p = told_of p b u xs rows c.self.inside.dying.items (vec_capacity c.self.inside.dying) is c.self.invariant c.tells.ensures c.count.ensures.interned in
    let n = c.lay.new in
    let e = c.lay.ensures in
    let k : ℕ = 16 * c.args.object + c.args.slot in
    let source = subst (λ (v : Plane). IsLive v.objects c.args.object) (sym is) (source p told c.args.object (inr c.requires.held)) in
    let target = subst (λ (v : Plane). (y : ℕ) → edge_of c.args.word ≡ Some y → IsLive v.objects y) (sym is) (target_down p told c.args.word c.has_room.ensures c.requires.target) in
    let apart = subst (λ (v : Plane). kept_of v.records c.args.object ≡ None) (sym is) (standing_unrecorded p told c.args.object (inr c.requires.held)) in
    let roomy : n.board.objects ≤ vec_capacity c.self.inside.dying = subst (λ (a : Board). a.objects ≤ vec_capacity c.self.inside.dying) (sym e.board) c.self.invariant.roomy in
    let rest = change_rest b n.board u n.union xs n.pool rows c.self.inside.dying.items c.self.inside.dying.items (vec_capacity c.self.inside.dying) (vec_capacity c.self.inside.dying) c.args.object c.args.slot c.args.word puts.Stored
    c.self.invariant c.requires.slot source target apart e.put.0 e.put e.joined e.acyclic e.none c.self.invariant.calm roomy in
    let q : Plane = plane_of n.board n.union n.pool rows in
    let after : IsPlane q = told_of q n.board n.union n.pool rows c.self.inside.dying.items (vec_capacity c.self.inside.dying) refl rest e.told c.count.ensures.interned in
    let put = subst (λ (v : Plane). IsPlanePut v q k c.args.word puts.Stored) is (put_rows b n.board u n.union xs n.pool rows k c.args.word puts.Stored e.put) in
    let board : n.board ≡ board_stored p.board k c.args.word = e.board ∙ ap (λ (v : Plane). board_stored v.board k c.args.word) is in
    laid_stores p told c.args.self.now.recorded q after c.args.object c.args.slot c.requires.slot (in_cells p told c.args.object (inr c.requires.held) c.args.slot c.requires.slot) c.args.word c.has_room.ensures put (returns-clause-put g c) board
