use Rattle.std.proofs.Common.{arith, ◌≡◌, ◌*◌, ◌+◌, ◌-◌, ◌^◌, List, Option, Some, None, refl, sym, ap, ◌∙◌, subst, vec_capacity}
use Rattle.std.specs.Prelude.{IfSome, IfNone, Ok, OnSome, Result, ℕ}
use Rattle.std.specs.declared.alloc.AllocError.{AllocError}
use Rattle.fib_base_interned.specs.Interned.{AreInterned, Kept, kept_of, users_of, Takes}
use Rattle.fib_pool.specs.declared.object.Kind.TheVariants as kinds
use Rattle.fib_pool.specs.declared.object.Object.{Object}
use Rattle.fib_pool.specs.declared.object.TakenRecord.{TakenRecord}
use Rattle.fib_pool.specs.declared.object.AdjacencyRecord.{AdjacencyRecord}
use Rattle.fib_pool.specs.Objects.{TookObject, at, free_in}
use Rattle.fib_core.proofs.Numbers.{owner_of}
use Rattle.fib_pool.specs.Records.{adjacency, IsNew, IsUsedLess, ObjectsFollow, TakesRecord}
use Rattle.fib_base_interned.proofs.Finding.{none_some}
use Rattle.fib_core_board.specs.May.{Allows, HoldsPromise}
use Rattle.fib_plane_view.specs.View as View
use Rattle.fib_plane_view.specs.View.{TookOne}
use Rattle.fib_plane.specs.Planes.{Plane, Holds, IsHeld}
use Rattle.fib_plane.specs.Records.{TookRecord, board_filled}
use Rattle.fib_plane.specs.Sound.{IsPlane}
use Rattle.fib_plane.specs.Views.{AreRecorded, Whole, plane_of, view_of}
use Rattle.fib_plane.proofs.Resting.{told_of}
use Rattle.fib_plane.proofs.Filling.{same_rest, fresh_idle, fresh_rest, shared_rest, content_is, taken_apart}
use Rattle.fib_plane_view.proofs.Storing.{stores_none}
use Rattle.fib_plane_view.specs.Stores.{StoresEach}
use Rattle.fib_plane_view.specs.View.{IsLive as Seen}
use Rattle.fib_plane.proofs.Views.Differing.{took_stores}
use Rattle.fib_plane.proofs.Views.Interning.{few_down}
use Rattle.fib_plane.proofs.Views.Promising.{allows_down, serves_down}
use Rattle.fib_plane.proofs.Views.Recording.{one_promise, took_one, took_recorded, took_seen, took_sound}
use Rattle.fib_plane.proofs.Views.Seeing.{held_down}
use Rattle.fib_plane.proofs.objects.PlaneObjects.take_adj.Goals as goal

pub take_adj-requires-clause-few : goal.take_adj-requires-clause-few
take_adj-requires-clause-few g c =
    let p = c.args.self.now.plane in
    let b = c.self.inside.board in
    let u = c.self.inside.union in
    let xs = c.self.inside.pool in
    let rows = c.self.inside.table in
    let ds = c.self.inside.dying.items in
    let size = vec_capacity c.self.inside.dying in
    let r : AdjacencyRecord = adjacency c.args.interface c.args.next_hop c.args.mac in
    let is = ap (λ (v : Whole). v.plane) c.self.view_is in
    let told : IsPlane p = told_of p b u xs rows ds size is c.self.invariant c.tells.ensures c.count.ensures.interned in
    subst (λ (v : Plane). IsUsedLess v.records r (2 ^ 32 - 1)) (sym is) (few_down p.records told.interned r (2 ^ 32 - 1) c.requires.few)

pub invariant_of-self : goal.invariant_of-self
invariant_of-self g c = same_rest c.self.inside.board c.self.inside.union c.self.inside.pool c.take_adj.new.pool c.self.inside.table c.take_adj.new.self c.self.inside.dying.items (vec_capacity c.self.inside.dying) c.in_err-found.ensures.err.0 c.in_err-found.ensures.err.1 c.self.invariant

pub invariant_of-self-inside-in-None : goal.invariant_of-self-inside-in-None
invariant_of-self-inside-in-None g c =
    let p = c.args.self.now.plane in
    let b = c.self.inside.board in
    let u = c.self.inside.union in
    let xs = c.self.inside.pool in
    let rows = c.self.inside.table in
    let ds = c.self.inside.dying.items in
    let size = vec_capacity c.self.inside.dying in
    let r : AdjacencyRecord = adjacency c.args.interface c.args.next_hop c.args.mac in
    let is = ap (λ (v : Whole). v.plane) c.self.view_is in
    let told : IsPlane p = told_of p b u xs rows ds size is c.self.invariant c.tells.ensures c.count.ensures.interned in
    let new = c.take_adj.new.self in
    let ys = c.take_adj.new.pool in
    let absent : IsNew rows r × (free_in xs ≡ 0) = subst (λ (f : Option TakenRecord). IfNone f (IsNew rows r × (free_in xs ≡ 0))) c.in-None.is c.in_ok-found.ensures.none in
    let same : (new ≡ rows) × (ys ≡ xs) = subst (λ (f : Option TakenRecord). IfNone f ((new ≡ rows) × (ys ≡ xs))) c.in-None.is c.in_ok-found.ensures.same in
    let q : Plane = plane_of b u ys new in
    let back : q ≡ p = ap (λ (l : List (Option Object)). plane_of b u l new) same.1 ∙ (ap (λ (l : List (Kept AdjacencyRecord)). plane_of b u xs l) same.0 ∙ is) in
    (subst (λ (v : Plane). View.IsPlane (view_of v)) (sym back) c.args.self.now.sound, (subst AreRecorded (sym back) c.args.self.now.recorded, tt))

pub returns-in-None-clause-new : goal.returns-in-None-clause-new
returns-in-None-clause-new g c =
    let p = c.args.self.now.plane in
    let b = c.self.inside.board in
    let u = c.self.inside.union in
    let xs = c.self.inside.pool in
    let rows = c.self.inside.table in
    let ds = c.self.inside.dying.items in
    let size = vec_capacity c.self.inside.dying in
    let r : AdjacencyRecord = adjacency c.args.interface c.args.next_hop c.args.mac in
    let is = ap (λ (v : Whole). v.plane) c.self.view_is in
    let told : IsPlane p = told_of p b u xs rows ds size is c.self.invariant c.tells.ensures c.count.ensures.interned in
    let new = c.take_adj.new.self in
    let ys = c.take_adj.new.pool in
    let absent : IsNew rows r × (free_in xs ≡ 0) = subst (λ (f : Option TakenRecord). IfNone f (IsNew rows r × (free_in xs ≡ 0))) c.in-None.is c.in_ok-found.ensures.none in
    let same : (new ≡ rows) × (ys ≡ xs) = subst (λ (f : Option TakenRecord). IfNone f ((new ≡ rows) × (ys ≡ xs))) c.in-None.is c.in_ok-found.ensures.same in
    let q : Plane = plane_of b u ys new in
    let back : q ≡ p = ap (λ (l : List (Option Object)). plane_of b u l new) same.1 ∙ (ap (λ (l : List (Kept AdjacencyRecord)). plane_of b u xs l) same.0 ∙ is) in
    subst (λ (v : Plane). IsNew v.records r) is absent.0

pub returns-in-None-clause-took : goal.returns-in-None-clause-took
returns-in-None-clause-took g c =
    let p = c.args.self.now.plane in
    let b = c.self.inside.board in
    let u = c.self.inside.union in
    let xs = c.self.inside.pool in
    let rows = c.self.inside.table in
    let ds = c.self.inside.dying.items in
    let size = vec_capacity c.self.inside.dying in
    let r : AdjacencyRecord = adjacency c.args.interface c.args.next_hop c.args.mac in
    let is = ap (λ (v : Whole). v.plane) c.self.view_is in
    let told : IsPlane p = told_of p b u xs rows ds size is c.self.invariant c.tells.ensures c.count.ensures.interned in
    let new = c.take_adj.new.self in
    let ys = c.take_adj.new.pool in
    let absent : IsNew rows r × (free_in xs ≡ 0) = subst (λ (f : Option TakenRecord). IfNone f (IsNew rows r × (free_in xs ≡ 0))) c.in-None.is c.in_ok-found.ensures.none in
    let same : (new ≡ rows) × (ys ≡ xs) = subst (λ (f : Option TakenRecord). IfNone f ((new ≡ rows) × (ys ≡ xs))) c.in-None.is c.in_ok-found.ensures.same in
    let q : Plane = plane_of b u ys new in
    let back : q ≡ p = ap (λ (l : List (Option Object)). plane_of b u l new) same.1 ∙ (ap (λ (l : List (Kept AdjacencyRecord)). plane_of b u xs l) same.0 ∙ is) in
    let lacks : IsNew p.records r × (free_in p.objects ≡ 0) = subst (λ (v : Plane). IsNew v.records r × (free_in v.objects ≡ 0)) is absent in
    subst (λ (v : Plane). TookOne (view_of p) (view_of v) r (Ok None)) (sym back) (took_one p p told told r (Ok None) tt lacks refl tt)

pub fill-requires-clause-idle : goal.fill-requires-clause-idle
fill-requires-clause-idle g c =
    let p = c.args.self.now.plane in
    let b = c.self.inside.board in
    let u = c.self.inside.union in
    let xs = c.self.inside.pool in
    let rows = c.self.inside.table in
    let ds = c.self.inside.dying.items in
    let size = vec_capacity c.self.inside.dying in
    let r : AdjacencyRecord = adjacency c.args.interface c.args.next_hop c.args.mac in
    let is = ap (λ (v : Whole). v.plane) c.self.view_is in
    let told : IsPlane p = told_of p b u xs rows ds size is c.self.invariant c.tells.ensures c.count.ensures.interned in
    let new = c.take_adj.new.self in
    let ys = c.take_adj.new.pool in
    let o = c.in-Some.taken.object in
    let t : TakesRecord rows new xs ys r c.in-Some.taken = subst (λ (f : Option TakenRecord). IfSome f (λ q. TakesRecord rows new xs ys r q)) c.in-Some.is c.in_ok-found.ensures.taken in
    let taken : TookObject xs ys o kinds.Adjacency = (subst (λ f. ObjectsFollow f rows r xs ys o) c.if-taken.true t.objects).1 in
    let asked : HoldsPromise p.board (Holds p) = serves_down p c.requires.promise.1.0 c.requires.promise.1.1 (Holds p) (λ begun e x lasting at held. (held_down p.board p.objects x held).1) in
    let serves : HoldsPromise b (IsHeld b xs) = subst (λ (v : Plane). HoldsPromise v.board (Holds v)) (sym is) asked in
    let allowed : Allows b = subst (λ (v : Plane). Allows v.board) (sym is) (allows_down p.board c.requires.promise.0) in
    fresh_idle b u xs ys rows ds size o c.self.invariant taken allowed serves

pub invariant_of-self-then-taken : goal.invariant_of-self-then-taken
invariant_of-self-then-taken g c =
    let p = c.args.self.now.plane in
    let b = c.self.inside.board in
    let u = c.self.inside.union in
    let xs = c.self.inside.pool in
    let rows = c.self.inside.table in
    let ds = c.self.inside.dying.items in
    let size = vec_capacity c.self.inside.dying in
    let r : AdjacencyRecord = adjacency c.args.interface c.args.next_hop c.args.mac in
    let is = ap (λ (v : Whole). v.plane) c.self.view_is in
    let told : IsPlane p = told_of p b u xs rows ds size is c.self.invariant c.tells.ensures c.count.ensures.interned in
    let new = c.take_adj.new.self in
    let ys = c.take_adj.new.pool in
    let o = c.in-Some.taken.object in
    let t : TakesRecord rows new xs ys r c.in-Some.taken = subst (λ (f : Option TakenRecord). IfSome f (λ q. TakesRecord rows new xs ys r q)) c.in-Some.is c.in_ok-found.ensures.taken in
    let taken : TookObject xs ys o kinds.Adjacency = (subst (λ f. ObjectsFollow f rows r xs ys o) c.if-taken.true t.objects).1 in
    let at : c.record-record.result ≡ r = content_is (kept_of new o) (record { id = o; content = r; users = users_of rows o + 1 }) c.record-record.result c.record-record.ensures t.takes.taken in
    let e = c.fill.ensures in
    let rest = fresh_rest b c.fill.new.board u c.fill.new.union xs ys rows new ds size o c.record-record.result
    c.self.invariant taken (subst (λ (q : AdjacencyRecord). Takes rows new q o) (sym at) t.takes) c.take_adj.ensures.live e.board e.idle e.counts e.interface e.next_hop e.words e.mac in
    rest

pub invariant_of-self-inside-then-taken : goal.invariant_of-self-inside-then-taken
invariant_of-self-inside-then-taken g c =
    let p = c.args.self.now.plane in
    let b = c.self.inside.board in
    let u = c.self.inside.union in
    let xs = c.self.inside.pool in
    let rows = c.self.inside.table in
    let ds = c.self.inside.dying.items in
    let size = vec_capacity c.self.inside.dying in
    let r : AdjacencyRecord = adjacency c.args.interface c.args.next_hop c.args.mac in
    let is = ap (λ (v : Whole). v.plane) c.self.view_is in
    let told : IsPlane p = told_of p b u xs rows ds size is c.self.invariant c.tells.ensures c.count.ensures.interned in
    let new = c.take_adj.new.self in
    let ys = c.take_adj.new.pool in
    let o = c.in-Some.taken.object in
    let t : TakesRecord rows new xs ys r c.in-Some.taken = subst (λ (f : Option TakenRecord). IfSome f (λ q. TakesRecord rows new xs ys r q)) c.in-Some.is c.in_ok-found.ensures.taken in
    let taken : TookObject xs ys o kinds.Adjacency = (subst (λ f. ObjectsFollow f rows r xs ys o) c.if-taken.true t.objects).1 in
    let at : c.record-record.result ≡ r = content_is (kept_of new o) (record { id = o; content = r; users = users_of rows o + 1 }) c.record-record.result c.record-record.ensures t.takes.taken in
    let e = c.fill.ensures in
    let rest = fresh_rest b c.fill.new.board u c.fill.new.union xs ys rows new ds size o c.record-record.result
    c.self.invariant taken (subst (λ (q : AdjacencyRecord). Takes rows new q o) (sym at) t.takes) c.take_adj.ensures.live e.board e.idle e.counts e.interface e.next_hop e.words e.mac in
    let kept : AreInterned new = subst (λ (f : Option TakenRecord). OnSome f (AreInterned new)) c.in-Some.is c.in_ok-found.ensures.interned in
    let q : Plane = plane_of c.fill.new.board c.fill.new.union ys new in
    let after : IsPlane q = told_of q c.fill.new.board c.fill.new.union ys new ds size refl rest e.told kept in
    let here : TookRecord (plane_of b u xs rows) q r o = record {
      takes = t.takes;
      shared = λ k f. absurd (taken_apart b xs ys rows o c.self.invariant.records taken k f);
      fresh = λ f. (taken, e.board ∙ ap (λ (s : AdjacencyRecord). board_filled b o s) at);
      spare = e.spare;
    } in
    let took : TookRecord p q r o = subst (λ (v : Plane). TookRecord v q r o) is here in
    (took_sound p q told after r o took c.args.self.now.sound, (took_recorded p q told after r o took c.args.self.now.recorded, tt))

pub returns-then-taken-clause-took : goal.returns-then-taken-clause-took
returns-then-taken-clause-took g c =
    let p = c.args.self.now.plane in
    let b = c.self.inside.board in
    let u = c.self.inside.union in
    let xs = c.self.inside.pool in
    let rows = c.self.inside.table in
    let ds = c.self.inside.dying.items in
    let size = vec_capacity c.self.inside.dying in
    let r : AdjacencyRecord = adjacency c.args.interface c.args.next_hop c.args.mac in
    let is = ap (λ (v : Whole). v.plane) c.self.view_is in
    let told : IsPlane p = told_of p b u xs rows ds size is c.self.invariant c.tells.ensures c.count.ensures.interned in
    let new = c.take_adj.new.self in
    let ys = c.take_adj.new.pool in
    let o = c.in-Some.taken.object in
    let t : TakesRecord rows new xs ys r c.in-Some.taken = subst (λ (f : Option TakenRecord). IfSome f (λ q. TakesRecord rows new xs ys r q)) c.in-Some.is c.in_ok-found.ensures.taken in
    let taken : TookObject xs ys o kinds.Adjacency = (subst (λ f. ObjectsFollow f rows r xs ys o) c.if-taken.true t.objects).1 in
    let at : c.record-record.result ≡ r = content_is (kept_of new o) (record { id = o; content = r; users = users_of rows o + 1 }) c.record-record.result c.record-record.ensures t.takes.taken in
    let e = c.fill.ensures in
    let rest = fresh_rest b c.fill.new.board u c.fill.new.union xs ys rows new ds size o c.record-record.result
    c.self.invariant taken (subst (λ (q : AdjacencyRecord). Takes rows new q o) (sym at) t.takes) c.take_adj.ensures.live e.board e.idle e.counts e.interface e.next_hop e.words e.mac in
    let kept : AreInterned new = subst (λ (f : Option TakenRecord). OnSome f (AreInterned new)) c.in-Some.is c.in_ok-found.ensures.interned in
    let q : Plane = plane_of c.fill.new.board c.fill.new.union ys new in
    let after : IsPlane q = told_of q c.fill.new.board c.fill.new.union ys new ds size refl rest e.told kept in
    let here : TookRecord (plane_of b u xs rows) q r o = record {
      takes = t.takes;
      shared = λ k f. absurd (taken_apart b xs ys rows o c.self.invariant.records taken k f);
      fresh = λ f. (taken, e.board ∙ ap (λ (s : AdjacencyRecord). board_filled b o s) at);
      spare = e.spare;
    } in
    let took : TookRecord p q r o = subst (λ (v : Plane). TookRecord v q r o) is here in
    took_seen p q told after r o took

pub returns-then-taken-clause-promise : goal.returns-then-taken-clause-promise
returns-then-taken-clause-promise g c =
    let p = c.args.self.now.plane in
    let b = c.self.inside.board in
    let u = c.self.inside.union in
    let xs = c.self.inside.pool in
    let rows = c.self.inside.table in
    let ds = c.self.inside.dying.items in
    let size = vec_capacity c.self.inside.dying in
    let r : AdjacencyRecord = adjacency c.args.interface c.args.next_hop c.args.mac in
    let is = ap (λ (v : Whole). v.plane) c.self.view_is in
    let told : IsPlane p = told_of p b u xs rows ds size is c.self.invariant c.tells.ensures c.count.ensures.interned in
    let new = c.take_adj.new.self in
    let ys = c.take_adj.new.pool in
    let o = c.in-Some.taken.object in
    let t : TakesRecord rows new xs ys r c.in-Some.taken = subst (λ (f : Option TakenRecord). IfSome f (λ q. TakesRecord rows new xs ys r q)) c.in-Some.is c.in_ok-found.ensures.taken in
    let taken : TookObject xs ys o kinds.Adjacency = (subst (λ f. ObjectsFollow f rows r xs ys o) c.if-taken.true t.objects).1 in
    let at : c.record-record.result ≡ r = content_is (kept_of new o) (record { id = o; content = r; users = users_of rows o + 1 }) c.record-record.result c.record-record.ensures t.takes.taken in
    let e = c.fill.ensures in
    let rest = fresh_rest b c.fill.new.board u c.fill.new.union xs ys rows new ds size o c.record-record.result
    c.self.invariant taken (subst (λ (q : AdjacencyRecord). Takes rows new q o) (sym at) t.takes) c.take_adj.ensures.live e.board e.idle e.counts e.interface e.next_hop e.words e.mac in
    let kept : AreInterned new = subst (λ (f : Option TakenRecord). OnSome f (AreInterned new)) c.in-Some.is c.in_ok-found.ensures.interned in
    let q : Plane = plane_of c.fill.new.board c.fill.new.union ys new in
    let after : IsPlane q = told_of q c.fill.new.board c.fill.new.union ys new ds size refl rest e.told kept in
    let here : TookRecord (plane_of b u xs rows) q r o = record {
      takes = t.takes;
      shared = λ k f. absurd (taken_apart b xs ys rows o c.self.invariant.records taken k f);
      fresh = λ f. (taken, e.board ∙ ap (λ (s : AdjacencyRecord). board_filled b o s) at);
      spare = e.spare;
    } in
    let took : TookRecord p q r o = subst (λ (v : Plane). TookRecord v q r o) is here in
    one_promise p q told after r (Ok (Some o)) took tt tt

pub returns-then-taken-clause-plane : goal.returns-then-taken-clause-plane
returns-then-taken-clause-plane g c =
    let p = c.args.self.now.plane in
    let b = c.self.inside.board in
    let u = c.self.inside.union in
    let xs = c.self.inside.pool in
    let rows = c.self.inside.table in
    let ds = c.self.inside.dying.items in
    let size = vec_capacity c.self.inside.dying in
    let r : AdjacencyRecord = adjacency c.args.interface c.args.next_hop c.args.mac in
    let is = ap (λ (v : Whole). v.plane) c.self.view_is in
    let told : IsPlane p = told_of p b u xs rows ds size is c.self.invariant c.tells.ensures c.count.ensures.interned in
    let new = c.take_adj.new.self in
    let ys = c.take_adj.new.pool in
    let o = c.in-Some.taken.object in
    let t : TakesRecord rows new xs ys r c.in-Some.taken = subst (λ (f : Option TakenRecord). IfSome f (λ q. TakesRecord rows new xs ys r q)) c.in-Some.is c.in_ok-found.ensures.taken in
    let taken : TookObject xs ys o kinds.Adjacency = (subst (λ f. ObjectsFollow f rows r xs ys o) c.if-taken.true t.objects).1 in
    let at : c.record-record.result ≡ r = content_is (kept_of new o) (record { id = o; content = r; users = users_of rows o + 1 }) c.record-record.result c.record-record.ensures t.takes.taken in
    let e = c.fill.ensures in
    let rest = fresh_rest b c.fill.new.board u c.fill.new.union xs ys rows new ds size o c.record-record.result
    c.self.invariant taken (subst (λ (q : AdjacencyRecord). Takes rows new q o) (sym at) t.takes) c.take_adj.ensures.live e.board e.idle e.counts e.interface e.next_hop e.words e.mac in
    let kept : AreInterned new = subst (λ (f : Option TakenRecord). OnSome f (AreInterned new)) c.in-Some.is c.in_ok-found.ensures.interned in
    let q : Plane = plane_of c.fill.new.board c.fill.new.union ys new in
    let after : IsPlane q = told_of q c.fill.new.board c.fill.new.union ys new ds size refl rest e.told kept in
    let here : TookRecord (plane_of b u xs rows) q r o = record {
      takes = t.takes;
      shared = λ k f. absurd (taken_apart b xs ys rows o c.self.invariant.records taken k f);
      fresh = λ f. (taken, e.board ∙ ap (λ (s : AdjacencyRecord). board_filled b o s) at);
      spare = e.spare;
    } in
    let took : TookRecord p q r o = subst (λ (v : Plane). TookRecord v q r o) is here in
    took

pub invariant_of-self-else-taken : goal.invariant_of-self-else-taken
invariant_of-self-else-taken g c =
    let p = c.args.self.now.plane in
    let b = c.self.inside.board in
    let u = c.self.inside.union in
    let xs = c.self.inside.pool in
    let rows = c.self.inside.table in
    let ds = c.self.inside.dying.items in
    let size = vec_capacity c.self.inside.dying in
    let r : AdjacencyRecord = adjacency c.args.interface c.args.next_hop c.args.mac in
    let is = ap (λ (v : Whole). v.plane) c.self.view_is in
    let told : IsPlane p = told_of p b u xs rows ds size is c.self.invariant c.tells.ensures c.count.ensures.interned in
    let new = c.take_adj.new.self in
    let ys = c.take_adj.new.pool in
    let o = c.in-Some.taken.object in
    let t : TakesRecord rows new xs ys r c.in-Some.taken = subst (λ (f : Option TakenRecord). IfSome f (λ q. TakesRecord rows new xs ys r q)) c.in-Some.is c.in_ok-found.ensures.taken in
    let same = subst (λ f. ObjectsFollow f rows r xs ys o) c.if-taken.false t.objects in
    let rest = shared_rest b u xs ys rows new ds size r o t.takes same.0 same.1 c.self.invariant in
    rest

pub invariant_of-self-inside-else-taken : goal.invariant_of-self-inside-else-taken
invariant_of-self-inside-else-taken g c =
    let p = c.args.self.now.plane in
    let b = c.self.inside.board in
    let u = c.self.inside.union in
    let xs = c.self.inside.pool in
    let rows = c.self.inside.table in
    let ds = c.self.inside.dying.items in
    let size = vec_capacity c.self.inside.dying in
    let r : AdjacencyRecord = adjacency c.args.interface c.args.next_hop c.args.mac in
    let is = ap (λ (v : Whole). v.plane) c.self.view_is in
    let told : IsPlane p = told_of p b u xs rows ds size is c.self.invariant c.tells.ensures c.count.ensures.interned in
    let new = c.take_adj.new.self in
    let ys = c.take_adj.new.pool in
    let o = c.in-Some.taken.object in
    let t : TakesRecord rows new xs ys r c.in-Some.taken = subst (λ (f : Option TakenRecord). IfSome f (λ q. TakesRecord rows new xs ys r q)) c.in-Some.is c.in_ok-found.ensures.taken in
    let same = subst (λ f. ObjectsFollow f rows r xs ys o) c.if-taken.false t.objects in
    let rest = shared_rest b u xs ys rows new ds size r o t.takes same.0 same.1 c.self.invariant in
    let kept : AreInterned new = subst (λ (f : Option TakenRecord). OnSome f (AreInterned new)) c.in-Some.is c.in_ok-found.ensures.interned in
    let q : Plane = plane_of b u ys new in
    let after : IsPlane q = told_of q b u ys new ds size refl rest c.tells.ensures kept in
    let here : TookRecord (plane_of b u xs rows) q r o = record {
      takes = t.takes;
      shared = λ k f. (refl, same.1);
      fresh = λ f. absurd (none_some same.0.0 (sym f ∙ same.0.1));
      spare = omega arith;
    } in
    let took : TookRecord p q r o = subst (λ (v : Plane). TookRecord v q r o) is here in
    (took_sound p q told after r o took c.args.self.now.sound, (took_recorded p q told after r o took c.args.self.now.recorded, tt))

pub returns-clause-took : goal.returns-clause-took
returns-clause-took g c =
    let p = c.args.self.now.plane in
    let b = c.self.inside.board in
    let u = c.self.inside.union in
    let xs = c.self.inside.pool in
    let rows = c.self.inside.table in
    let ds = c.self.inside.dying.items in
    let size = vec_capacity c.self.inside.dying in
    let r : AdjacencyRecord = adjacency c.args.interface c.args.next_hop c.args.mac in
    let is = ap (λ (v : Whole). v.plane) c.self.view_is in
    let told : IsPlane p = told_of p b u xs rows ds size is c.self.invariant c.tells.ensures c.count.ensures.interned in
    let new = c.take_adj.new.self in
    let ys = c.take_adj.new.pool in
    let o = c.in-Some.taken.object in
    let t : TakesRecord rows new xs ys r c.in-Some.taken = subst (λ (f : Option TakenRecord). IfSome f (λ q. TakesRecord rows new xs ys r q)) c.in-Some.is c.in_ok-found.ensures.taken in
    let same = subst (λ f. ObjectsFollow f rows r xs ys o) c.if-taken.false t.objects in
    let rest = shared_rest b u xs ys rows new ds size r o t.takes same.0 same.1 c.self.invariant in
    let kept : AreInterned new = subst (λ (f : Option TakenRecord). OnSome f (AreInterned new)) c.in-Some.is c.in_ok-found.ensures.interned in
    let q : Plane = plane_of b u ys new in
    let after : IsPlane q = told_of q b u ys new ds size refl rest c.tells.ensures kept in
    let here : TookRecord (plane_of b u xs rows) q r o = record {
      takes = t.takes;
      shared = λ k f. (refl, same.1);
      fresh = λ f. absurd (none_some same.0.0 (sym f ∙ same.0.1));
      spare = omega arith;
    } in
    let took : TookRecord p q r o = subst (λ (v : Plane). TookRecord v q r o) is here in
    took_seen p q told after r o took

pub returns-clause-plane : goal.returns-clause-plane
returns-clause-plane g c =
    let p = c.args.self.now.plane in
    let b = c.self.inside.board in
    let u = c.self.inside.union in
    let xs = c.self.inside.pool in
    let rows = c.self.inside.table in
    let ds = c.self.inside.dying.items in
    let size = vec_capacity c.self.inside.dying in
    let r : AdjacencyRecord = adjacency c.args.interface c.args.next_hop c.args.mac in
    let is = ap (λ (v : Whole). v.plane) c.self.view_is in
    let told : IsPlane p = told_of p b u xs rows ds size is c.self.invariant c.tells.ensures c.count.ensures.interned in
    let new = c.take_adj.new.self in
    let ys = c.take_adj.new.pool in
    let o = c.in-Some.taken.object in
    let t : TakesRecord rows new xs ys r c.in-Some.taken = subst (λ (f : Option TakenRecord). IfSome f (λ q. TakesRecord rows new xs ys r q)) c.in-Some.is c.in_ok-found.ensures.taken in
    let same = subst (λ f. ObjectsFollow f rows r xs ys o) c.if-taken.false t.objects in
    let rest = shared_rest b u xs ys rows new ds size r o t.takes same.0 same.1 c.self.invariant in
    let kept : AreInterned new = subst (λ (f : Option TakenRecord). OnSome f (AreInterned new)) c.in-Some.is c.in_ok-found.ensures.interned in
    let q : Plane = plane_of b u ys new in
    let after : IsPlane q = told_of q b u ys new ds size refl rest c.tells.ensures kept in
    let here : TookRecord (plane_of b u xs rows) q r o = record {
      takes = t.takes;
      shared = λ k f. (refl, same.1);
      fresh = λ f. absurd (none_some same.0.0 (sym f ∙ same.0.1));
      spare = omega arith;
    } in
    let took : TookRecord p q r o = subst (λ (v : Plane). TookRecord v q r o) is here in
    took

pub returns-in-None-clause-stores : goal.returns-in-None-clause-stores
returns-in-None-clause-stores g c =
    let p = c.args.self.now.plane in
    let b = c.self.inside.board in
    let u = c.self.inside.union in
    let xs = c.self.inside.pool in
    let rows = c.self.inside.table in
    let ds = c.self.inside.dying.items in
    let size = vec_capacity c.self.inside.dying in
    let r : AdjacencyRecord = adjacency c.args.interface c.args.next_hop c.args.mac in
    let is = ap (λ (v : Whole). v.plane) c.self.view_is in
    let told : IsPlane p = told_of p b u xs rows ds size is c.self.invariant c.tells.ensures c.count.ensures.interned in
    let new = c.take_adj.new.self in
    let ys = c.take_adj.new.pool in
    let absent : IsNew rows r × (free_in xs ≡ 0) = subst (λ (f : Option TakenRecord). IfNone f (IsNew rows r × (free_in xs ≡ 0))) c.in-None.is c.in_ok-found.ensures.none in
    let same : (new ≡ rows) × (ys ≡ xs) = subst (λ (f : Option TakenRecord). IfNone f ((new ≡ rows) × (ys ≡ xs))) c.in-None.is c.in_ok-found.ensures.same in
    let q : Plane = plane_of b u ys new in
    let back : q ≡ p = ap (λ (l : List (Option Object)). plane_of b u l new) same.1 ∙ (ap (λ (l : List (Kept AdjacencyRecord)). plane_of b u xs l) same.0 ∙ is) in
    let lacks : IsNew p.records r × (free_in p.objects ≡ 0) = subst (λ (v : Plane). IsNew v.records r × (free_in v.objects ≡ 0)) is absent in
    subst (λ (v : Plane). StoresEach (λ x s. (◌≡◌ {A = Result (Option ℕ) AllocError} (Ok None) (Ok (Some x))) × (Seen (view_of p) x → ⊥)) (view_of p) (view_of v)) (sym back) (stores_none _ (view_of p) (view_of p) (λ y t. refl) refl)

pub returns-then-taken-clause-stores : goal.returns-then-taken-clause-stores
returns-then-taken-clause-stores g c =
    let p = c.args.self.now.plane in
    let b = c.self.inside.board in
    let u = c.self.inside.union in
    let xs = c.self.inside.pool in
    let rows = c.self.inside.table in
    let ds = c.self.inside.dying.items in
    let size = vec_capacity c.self.inside.dying in
    let r : AdjacencyRecord = adjacency c.args.interface c.args.next_hop c.args.mac in
    let is = ap (λ (v : Whole). v.plane) c.self.view_is in
    let told : IsPlane p = told_of p b u xs rows ds size is c.self.invariant c.tells.ensures c.count.ensures.interned in
    let new = c.take_adj.new.self in
    let ys = c.take_adj.new.pool in
    let o = c.in-Some.taken.object in
    let t : TakesRecord rows new xs ys r c.in-Some.taken = subst (λ (f : Option TakenRecord). IfSome f (λ q. TakesRecord rows new xs ys r q)) c.in-Some.is c.in_ok-found.ensures.taken in
    let taken : TookObject xs ys o kinds.Adjacency = (subst (λ f. ObjectsFollow f rows r xs ys o) c.if-taken.true t.objects).1 in
    let at : c.record-record.result ≡ r = content_is (kept_of new o) (record { id = o; content = r; users = users_of rows o + 1 }) c.record-record.result c.record-record.ensures t.takes.taken in
    let e = c.fill.ensures in
    let rest = fresh_rest b c.fill.new.board u c.fill.new.union xs ys rows new ds size o c.record-record.result
    c.self.invariant taken (subst (λ (q : AdjacencyRecord). Takes rows new q o) (sym at) t.takes) c.take_adj.ensures.live e.board e.idle e.counts e.interface e.next_hop e.words e.mac in
    let kept : AreInterned new = subst (λ (f : Option TakenRecord). OnSome f (AreInterned new)) c.in-Some.is c.in_ok-found.ensures.interned in
    let q : Plane = plane_of c.fill.new.board c.fill.new.union ys new in
    let after : IsPlane q = told_of q c.fill.new.board c.fill.new.union ys new ds size refl rest e.told kept in
    let here : TookRecord (plane_of b u xs rows) q r o = record {
      takes = t.takes;
      shared = λ k f. absurd (taken_apart b xs ys rows o c.self.invariant.records taken k f);
      fresh = λ f. (taken, e.board ∙ ap (λ (s : AdjacencyRecord). board_filled b o s) at);
      spare = e.spare;
    } in
    let took : TookRecord p q r o = subst (λ (v : Plane). TookRecord v q r o) is here in
    took_stores p q told after r o took (λ y. ◌≡◌ {A = Result (Option ℕ) AllocError} (Ok (Some o)) (Ok (Some y))) refl

pub returns-clause-stores : goal.returns-clause-stores
returns-clause-stores g c =
    let p = c.args.self.now.plane in
    let b = c.self.inside.board in
    let u = c.self.inside.union in
    let xs = c.self.inside.pool in
    let rows = c.self.inside.table in
    let ds = c.self.inside.dying.items in
    let size = vec_capacity c.self.inside.dying in
    let r : AdjacencyRecord = adjacency c.args.interface c.args.next_hop c.args.mac in
    let is = ap (λ (v : Whole). v.plane) c.self.view_is in
    let told : IsPlane p = told_of p b u xs rows ds size is c.self.invariant c.tells.ensures c.count.ensures.interned in
    let new = c.take_adj.new.self in
    let ys = c.take_adj.new.pool in
    let o = c.in-Some.taken.object in
    let t : TakesRecord rows new xs ys r c.in-Some.taken = subst (λ (f : Option TakenRecord). IfSome f (λ q. TakesRecord rows new xs ys r q)) c.in-Some.is c.in_ok-found.ensures.taken in
    let same = subst (λ f. ObjectsFollow f rows r xs ys o) c.if-taken.false t.objects in
    let rest = shared_rest b u xs ys rows new ds size r o t.takes same.0 same.1 c.self.invariant in
    let kept : AreInterned new = subst (λ (f : Option TakenRecord). OnSome f (AreInterned new)) c.in-Some.is c.in_ok-found.ensures.interned in
    let q : Plane = plane_of b u ys new in
    let after : IsPlane q = told_of q b u ys new ds size refl rest c.tells.ensures kept in
    let here : TookRecord (plane_of b u xs rows) q r o = record {
      takes = t.takes;
      shared = λ k f. (refl, same.1);
      fresh = λ f. absurd (none_some same.0.0 (sym f ∙ same.0.1));
      spare = omega arith;
    } in
    let took : TookRecord p q r o = subst (λ (v : Plane). TookRecord v q r o) is here in
    took_stores p q told after r o took (λ y. ◌≡◌ {A = Result (Option ℕ) AllocError} (Ok (Some o)) (Ok (Some y))) refl

pub returns-in_err-found-clause-stores : goal.returns-in_err-found-clause-stores
returns-in_err-found-clause-stores g c =
    let p = c.args.self.now.plane in
    let b = c.self.inside.board in
    let u = c.self.inside.union in
    let xs = c.self.inside.pool in
    let new = c.take_adj.new.self in
    let is = ap (λ (v : Whole). v.plane) c.self.view_is in
    let back : plane_of b u c.take_adj.new.pool new ≡ p =
    ap (λ (l : List (Option Object)). plane_of b u l new) c.in_err-found.ensures.err.1 ∙ (ap (λ (l : List (Kept AdjacencyRecord)). plane_of b u xs l) c.in_err-found.ensures.err.0 ∙ is) in
    subst (λ (v : Plane). StoresEach (λ x s. (c.from_residual.result ≡ Ok (Some x)) × (Seen (view_of p) x → ⊥)) (view_of p) (view_of v)) (sym back)
    (stores_none (λ x s. (c.from_residual.result ≡ Ok (Some x)) × (Seen (view_of p) x → ⊥)) (view_of p) (view_of p) (λ y t. refl) refl)

pub fill-requires-clause-empty : goal.fill-requires-clause-empty
fill-requires-clause-empty g c = λ s lt.
    let p = c.args.self.now.plane in
    let b = c.self.inside.board in
    let u = c.self.inside.union in
    let xs = c.self.inside.pool in
    let rows = c.self.inside.table in
    let o = c.in-Some.taken.object in
    let r : AdjacencyRecord = adjacency c.args.interface c.args.next_hop c.args.mac in
    let is = ap (λ (v : Whole). v.plane) c.self.view_is in
    let told : IsPlane p = told_of p b u xs rows c.self.inside.dying.items (vec_capacity c.self.inside.dying) is c.self.invariant c.tells.ensures c.count.ensures.interned in
    let mine : IsPlane (plane_of b u xs rows) = subst IsPlane (sym is) told in
    let t : TakesRecord rows c.take_adj.new.self xs c.take_adj.new.pool r c.in-Some.taken = subst (λ (f : Option TakenRecord). IfSome f (λ q. TakesRecord rows c.take_adj.new.self xs c.take_adj.new.pool r q)) c.in-Some.is c.in_ok-found.ensures.taken in
    let taken : TookObject xs c.take_adj.new.pool o kinds.Adjacency = (subst (λ f. ObjectsFollow f rows r xs c.take_adj.new.pool o) c.if-taken.true t.objects).1 in
    mine.free (16 * o + s) (ap (at xs) (owner_of o s lt) ∙ taken.free)
