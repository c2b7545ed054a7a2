use Rattle.std.proofs.Common.{arith, ◌≡◌, ◌≤◌, ◌∙◌, [], refl, sym, ap, subst, length, vec_capacity}
use Rattle.fib_reach.specs.Walks.{IsAcyclic}
use Rattle.fib_union.specs.Unions.{Edge}
use Rattle.fib_core_board.specs.Boards.{Board, union_of}
use Rattle.fib_core_board.specs.May.{Allows, HoldsPromise}
use Rattle.fib_core_board.proofs.Serving.{serves_held}
use Rattle.fib_plane.specs.Planes.{Plane, Holds, IsHeld, IsPlaneScanned, IsSwept, IsUncounted}
use Rattle.fib_plane.specs.Sound.{IsPlane}
use Rattle.fib_plane.specs.Views.{Whole, plane_of}
use Rattle.fib_plane.proofs.Resting.{swept_plane, told_of}
use Rattle.fib_plane.proofs.Recording.{records_scanned}
use Rattle.fib_plane.proofs.Scanning.{joined_loose, copies_are, no_copies, scanned_nothing, scans_allows, scans_acyclic, scans_objects, dropped_uncounted}
use Rattle.fib_plane.proofs.Holding.{scans_serve, hold_scanned}
use Rattle.fib_plane.proofs.Leaving.{looks_leave}
use Rattle.fib_plane.proofs.Views.Alone.{scanned_alone}
use Rattle.fib_plane.proofs.Views.Promising.{allows_down, serves_down}
use Rattle.fib_plane.proofs.Views.Scanning.{scanned_promise, scanned_recorded, scanned_seen, scanned_sound}
use Rattle.fib_plane.proofs.Views.Seeing.{held_down}
use Rattle.fib_plane.proofs.objects.PlaneObjects.scan.Goals as goal

pub look_all-requires : goal.look_all-requires
look_all-requires g c = joined_loose c.self.inside.board c.self.inside.union c.self.inside.pool c.self.invariant.joined

pub returns-then-retired-eq0-clause-plane : goal.returns-then-retired-eq0-clause-plane
returns-then-retired-eq0-clause-plane g c =
    let p = c.args.self.now.plane in
    let b = c.self.inside.board in
    let u = c.self.inside.union in
    let xs = c.self.inside.pool in
    let rows = c.self.inside.table in
    let ds = c.self.inside.dying.items in
    let size = vec_capacity c.self.inside.dying in
    let is = ap (λ (v : Whole). v.plane) c.self.view_is in
    let told : IsPlane p = told_of p b u xs rows ds size is c.self.invariant c.tells.ensures c.count.ensures.interned in
    let copies = copies_are b u c.self.invariant.joined.same in
    let none : b.union.retired ≡ [] = no_copies b.union.retired c.retired.result c.if-retired-eq0.true (c.retired.ensures ∙ copies) in
    let scanned : IsPlaneScanned p p = subst (λ (v : Plane). IsPlaneScanned v v) is (scanned_nothing _ none) in
    let empty : p.board.union.retired ≡ [] = subst (λ (v : Plane). v.board.union.retired ≡ []) is none in
    scanned

pub returns-then-retired-eq0-clause-alone : goal.returns-then-retired-eq0-clause-alone
returns-then-retired-eq0-clause-alone g c =
    let p = c.args.self.now.plane in
    let b = c.self.inside.board in
    let u = c.self.inside.union in
    let xs = c.self.inside.pool in
    let rows = c.self.inside.table in
    let ds = c.self.inside.dying.items in
    let size = vec_capacity c.self.inside.dying in
    let is = ap (λ (v : Whole). v.plane) c.self.view_is in
    let told : IsPlane p = told_of p b u xs rows ds size is c.self.invariant c.tells.ensures c.count.ensures.interned in
    let copies = copies_are b u c.self.invariant.joined.same in
    let none : b.union.retired ≡ [] = no_copies b.union.retired c.retired.result c.if-retired-eq0.true (c.retired.ensures ∙ copies) in
    let scanned : IsPlaneScanned p p = subst (λ (v : Plane). IsPlaneScanned v v) is (scanned_nothing _ none) in
    let empty : p.board.union.retired ≡ [] = subst (λ (v : Plane). v.board.union.retired ≡ []) is none in
    scanned_alone p p told scanned

pub returns-then-retired-eq0-clause-scanned : goal.returns-then-retired-eq0-clause-scanned
returns-then-retired-eq0-clause-scanned g c =
    let p = c.args.self.now.plane in
    let b = c.self.inside.board in
    let u = c.self.inside.union in
    let xs = c.self.inside.pool in
    let rows = c.self.inside.table in
    let ds = c.self.inside.dying.items in
    let size = vec_capacity c.self.inside.dying in
    let is = ap (λ (v : Whole). v.plane) c.self.view_is in
    let told : IsPlane p = told_of p b u xs rows ds size is c.self.invariant c.tells.ensures c.count.ensures.interned in
    let copies = copies_are b u c.self.invariant.joined.same in
    let none : b.union.retired ≡ [] = no_copies b.union.retired c.retired.result c.if-retired-eq0.true (c.retired.ensures ∙ copies) in
    let scanned : IsPlaneScanned p p = subst (λ (v : Plane). IsPlaneScanned v v) is (scanned_nothing _ none) in
    let empty : p.board.union.retired ≡ [] = subst (λ (v : Plane). v.board.union.retired ≡ []) is none in
    scanned_seen p p told told scanned 0 (sym (ap length empty))

pub sweep-requires-clause-allowed : goal.sweep-requires-clause-allowed
sweep-requires-clause-allowed g c =
    let p = c.args.self.now.plane in
    let b = c.self.inside.board in
    let u = c.self.inside.union in
    let xs = c.self.inside.pool in
    let rows = c.self.inside.table in
    let ds = c.self.inside.dying.items in
    let size = vec_capacity c.self.inside.dying in
    let is = ap (λ (v : Whole). v.plane) c.self.view_is in
    let told : IsPlane p = told_of p b u xs rows ds size is c.self.invariant c.tells.ensures c.count.ensures.interned in
    let m = c.look_all.new.board in
    let ys = c.drop_left.new.pool in
    let s = c.look_all.ensures.scanned in
    subst (λ (q : Board). Allows q) (sym s.2) (scans_allows 0 s.0 b (subst (λ (v : Plane). Allows v.board) (sym is) (allows_down p.board c.requires.0)))

pub sweep-requires-clause-serves : goal.sweep-requires-clause-serves
sweep-requires-clause-serves g c =
    let p = c.args.self.now.plane in
    let b = c.self.inside.board in
    let u = c.self.inside.union in
    let xs = c.self.inside.pool in
    let rows = c.self.inside.table in
    let ds = c.self.inside.dying.items in
    let size = vec_capacity c.self.inside.dying in
    let is = ap (λ (v : Whole). v.plane) c.self.view_is in
    let told : IsPlane p = told_of p b u xs rows ds size is c.self.invariant c.tells.ensures c.count.ensures.interned in
    let m = c.look_all.new.board in
    let ys = c.drop_left.new.pool in
    let s = c.look_all.ensures.scanned in
    let may = c.requires in
    let asked : HoldsPromise p.board (Holds p) = serves_down p may.1.0 may.1.1 (Holds p) (λ begun e x lasting at held. (held_down p.board p.objects x held).1) in
    let before : HoldsPromise b (IsHeld b xs) = subst (λ (v : Plane). HoldsPromise v.board (Holds v)) (sym is) asked in
    let looked : HoldsPromise m (IsHeld b xs) = subst (λ (q : Board). HoldsPromise q (IsHeld b xs)) (sym s.2) (scans_serve (IsHeld b xs) 0 s.0 b before) in
    serves_held m (IsHeld b xs) (IsHeld m ys) (hold_scanned b m u.left c.look_all.new.union.left xs ys c.self.invariant.joined.left c.look_all.ensures.counts c.drop_left.ensures.dropped) looked

pub invariant_of-self : goal.invariant_of-self
invariant_of-self g c =
    let p = c.args.self.now.plane in
    let b = c.self.inside.board in
    let u = c.self.inside.union in
    let xs = c.self.inside.pool in
    let rows = c.self.inside.table in
    let ds = c.self.inside.dying.items in
    let size = vec_capacity c.self.inside.dying in
    let is = ap (λ (v : Whole). v.plane) c.self.view_is in
    let told : IsPlane p = told_of p b u xs rows ds size is c.self.invariant c.tells.ensures c.count.ensures.interned in
    let m = c.look_all.new.board in
    let ys = c.drop_left.new.pool in
    let s = c.look_all.ensures.scanned in
    let new = c.sweep.new in
    let calm = subst (λ (q : Board). IsAcyclic (Edge (union_of q))) (sym s.2) (scans_acyclic 0 s.0 b c.self.invariant.acyclic) in
    let same = ap (λ (q : Board). q.objects) s.2 ∙ scans_objects 0 s.0 b in
    let room : m.objects ≤ vec_capacity new.dying = omega (arith, same, c.self.invariant.roomy, c.drop_left.ensures.kept, c.sweep.ensures.room) in
    let uncounted : IsUncounted b m xs ys = dropped_uncounted b m u.left c.look_all.new.union.left xs ys c.self.invariant.joined.left c.drop_left.ensures.dropped c.look_all.ensures.counts in
    let records = records_scanned b m s.0 xs ys rows s.2 uncounted c.self.invariant.records in
    let rest = swept_plane m new.board new.union ys new.pool rows new.dying.items (vec_capacity new.dying) c.sweep.ensures.swept calm c.sweep.ensures.joined c.sweep.ensures.dying c.sweep.ensures.empty room records in
    rest

pub invariant_of-self-inside : goal.invariant_of-self-inside
invariant_of-self-inside g c =
    let p = c.args.self.now.plane in
    let b = c.self.inside.board in
    let u = c.self.inside.union in
    let xs = c.self.inside.pool in
    let rows = c.self.inside.table in
    let ds = c.self.inside.dying.items in
    let size = vec_capacity c.self.inside.dying in
    let is = ap (λ (v : Whole). v.plane) c.self.view_is in
    let told : IsPlane p = told_of p b u xs rows ds size is c.self.invariant c.tells.ensures c.count.ensures.interned in
    let m = c.look_all.new.board in
    let ys = c.drop_left.new.pool in
    let s = c.look_all.ensures.scanned in
    let new = c.sweep.new in
    let calm = subst (λ (q : Board). IsAcyclic (Edge (union_of q))) (sym s.2) (scans_acyclic 0 s.0 b c.self.invariant.acyclic) in
    let same = ap (λ (q : Board). q.objects) s.2 ∙ scans_objects 0 s.0 b in
    let room : m.objects ≤ vec_capacity new.dying = omega (arith, same, c.self.invariant.roomy, c.drop_left.ensures.kept, c.sweep.ensures.room) in
    let uncounted : IsUncounted b m xs ys = dropped_uncounted b m u.left c.look_all.new.union.left xs ys c.self.invariant.joined.left c.drop_left.ensures.dropped c.look_all.ensures.counts in
    let records = records_scanned b m s.0 xs ys rows s.2 uncounted c.self.invariant.records in
    let rest = swept_plane m new.board new.union ys new.pool rows new.dying.items (vec_capacity new.dying) c.sweep.ensures.swept calm c.sweep.ensures.joined c.sweep.ensures.dying c.sweep.ensures.empty room records in
    let q : Plane = plane_of new.board new.union new.pool rows in
    let after : IsPlane q = told_of q new.board new.union new.pool rows new.dying.items (vec_capacity new.dying) refl rest c.sweep.ensures.told c.count.ensures.interned in
    let here : IsPlaneScanned (plane_of b u xs rows) q = record {
      words = s.0;
      each = s.1;
      rests = s.3;
      copies = ap (λ (x : Board). x.union.retired) c.sweep.ensures.swept.frame ∙ (ap (λ (x : Board). x.union.retired) s.2 ∙ looks_leave s.0 0 b (omega (arith, s.1, c.tells.ensures.limits.some)));
      mid = ys;
      counted = subst (λ (x : Board). IsUncounted b x xs ys) s.2 uncounted;
      swept = subst (λ (x : Board). IsSwept x q.board ys q.objects) s.2 c.sweep.ensures.swept;
      records = refl;
      spare = omega (arith, c.look_all.ensures.spare, c.drop_left.ensures.spare, c.sweep.ensures.spare);
    } in
    let scanned : IsPlaneScanned p q = subst (λ (v : Plane). IsPlaneScanned v q) is here in
    (scanned_sound p q told after scanned c.args.self.now.sound, (scanned_recorded p q told after scanned c.args.self.now.recorded, tt))

pub returns-clause-plane : goal.returns-clause-plane
returns-clause-plane g c =
    let p = c.args.self.now.plane in
    let b = c.self.inside.board in
    let u = c.self.inside.union in
    let xs = c.self.inside.pool in
    let rows = c.self.inside.table in
    let ds = c.self.inside.dying.items in
    let size = vec_capacity c.self.inside.dying in
    let is = ap (λ (v : Whole). v.plane) c.self.view_is in
    let told : IsPlane p = told_of p b u xs rows ds size is c.self.invariant c.tells.ensures c.count.ensures.interned in
    let m = c.look_all.new.board in
    let ys = c.drop_left.new.pool in
    let s = c.look_all.ensures.scanned in
    let new = c.sweep.new in
    let calm = subst (λ (q : Board). IsAcyclic (Edge (union_of q))) (sym s.2) (scans_acyclic 0 s.0 b c.self.invariant.acyclic) in
    let same = ap (λ (q : Board). q.objects) s.2 ∙ scans_objects 0 s.0 b in
    let room : m.objects ≤ vec_capacity new.dying = omega (arith, same, c.self.invariant.roomy, c.drop_left.ensures.kept, c.sweep.ensures.room) in
    let uncounted : IsUncounted b m xs ys = dropped_uncounted b m u.left c.look_all.new.union.left xs ys c.self.invariant.joined.left c.drop_left.ensures.dropped c.look_all.ensures.counts in
    let records = records_scanned b m s.0 xs ys rows s.2 uncounted c.self.invariant.records in
    let rest = swept_plane m new.board new.union ys new.pool rows new.dying.items (vec_capacity new.dying) c.sweep.ensures.swept calm c.sweep.ensures.joined c.sweep.ensures.dying c.sweep.ensures.empty room records in
    let q : Plane = plane_of new.board new.union new.pool rows in
    let after : IsPlane q = told_of q new.board new.union new.pool rows new.dying.items (vec_capacity new.dying) refl rest c.sweep.ensures.told c.count.ensures.interned in
    let here : IsPlaneScanned (plane_of b u xs rows) q = record {
      words = s.0;
      each = s.1;
      rests = s.3;
      copies = ap (λ (x : Board). x.union.retired) c.sweep.ensures.swept.frame ∙ (ap (λ (x : Board). x.union.retired) s.2 ∙ looks_leave s.0 0 b (omega (arith, s.1, c.tells.ensures.limits.some)));
      mid = ys;
      counted = subst (λ (x : Board). IsUncounted b x xs ys) s.2 uncounted;
      swept = subst (λ (x : Board). IsSwept x q.board ys q.objects) s.2 c.sweep.ensures.swept;
      records = refl;
      spare = omega (arith, c.look_all.ensures.spare, c.drop_left.ensures.spare, c.sweep.ensures.spare);
    } in
    let scanned : IsPlaneScanned p q = subst (λ (v : Plane). IsPlaneScanned v q) is here in
    scanned

pub returns-clause-alone : goal.returns-clause-alone
returns-clause-alone g c =
    let p = c.args.self.now.plane in
    let b = c.self.inside.board in
    let u = c.self.inside.union in
    let xs = c.self.inside.pool in
    let rows = c.self.inside.table in
    let ds = c.self.inside.dying.items in
    let size = vec_capacity c.self.inside.dying in
    let is = ap (λ (v : Whole). v.plane) c.self.view_is in
    let told : IsPlane p = told_of p b u xs rows ds size is c.self.invariant c.tells.ensures c.count.ensures.interned in
    let m = c.look_all.new.board in
    let ys = c.drop_left.new.pool in
    let s = c.look_all.ensures.scanned in
    let new = c.sweep.new in
    let calm = subst (λ (q : Board). IsAcyclic (Edge (union_of q))) (sym s.2) (scans_acyclic 0 s.0 b c.self.invariant.acyclic) in
    let same = ap (λ (q : Board). q.objects) s.2 ∙ scans_objects 0 s.0 b in
    let room : m.objects ≤ vec_capacity new.dying = omega (arith, same, c.self.invariant.roomy, c.drop_left.ensures.kept, c.sweep.ensures.room) in
    let uncounted : IsUncounted b m xs ys = dropped_uncounted b m u.left c.look_all.new.union.left xs ys c.self.invariant.joined.left c.drop_left.ensures.dropped c.look_all.ensures.counts in
    let records = records_scanned b m s.0 xs ys rows s.2 uncounted c.self.invariant.records in
    let rest = swept_plane m new.board new.union ys new.pool rows new.dying.items (vec_capacity new.dying) c.sweep.ensures.swept calm c.sweep.ensures.joined c.sweep.ensures.dying c.sweep.ensures.empty room records in
    let q : Plane = plane_of new.board new.union new.pool rows in
    let after : IsPlane q = told_of q new.board new.union new.pool rows new.dying.items (vec_capacity new.dying) refl rest c.sweep.ensures.told c.count.ensures.interned in
    let here : IsPlaneScanned (plane_of b u xs rows) q = record {
      words = s.0;
      each = s.1;
      rests = s.3;
      copies = ap (λ (x : Board). x.union.retired) c.sweep.ensures.swept.frame ∙ (ap (λ (x : Board). x.union.retired) s.2 ∙ looks_leave s.0 0 b (omega (arith, s.1, c.tells.ensures.limits.some)));
      mid = ys;
      counted = subst (λ (x : Board). IsUncounted b x xs ys) s.2 uncounted;
      swept = subst (λ (x : Board). IsSwept x q.board ys q.objects) s.2 c.sweep.ensures.swept;
      records = refl;
      spare = omega (arith, c.look_all.ensures.spare, c.drop_left.ensures.spare, c.sweep.ensures.spare);
    } in
    let scanned : IsPlaneScanned p q = subst (λ (v : Plane). IsPlaneScanned v q) is here in
    scanned_alone p q told scanned

pub returns-clause-promise : goal.returns-clause-promise
returns-clause-promise g c =
    let p = c.args.self.now.plane in
    let b = c.self.inside.board in
    let u = c.self.inside.union in
    let xs = c.self.inside.pool in
    let rows = c.self.inside.table in
    let ds = c.self.inside.dying.items in
    let size = vec_capacity c.self.inside.dying in
    let is = ap (λ (v : Whole). v.plane) c.self.view_is in
    let told : IsPlane p = told_of p b u xs rows ds size is c.self.invariant c.tells.ensures c.count.ensures.interned in
    let m = c.look_all.new.board in
    let ys = c.drop_left.new.pool in
    let s = c.look_all.ensures.scanned in
    let new = c.sweep.new in
    let calm = subst (λ (q : Board). IsAcyclic (Edge (union_of q))) (sym s.2) (scans_acyclic 0 s.0 b c.self.invariant.acyclic) in
    let same = ap (λ (q : Board). q.objects) s.2 ∙ scans_objects 0 s.0 b in
    let room : m.objects ≤ vec_capacity new.dying = omega (arith, same, c.self.invariant.roomy, c.drop_left.ensures.kept, c.sweep.ensures.room) in
    let uncounted : IsUncounted b m xs ys = dropped_uncounted b m u.left c.look_all.new.union.left xs ys c.self.invariant.joined.left c.drop_left.ensures.dropped c.look_all.ensures.counts in
    let records = records_scanned b m s.0 xs ys rows s.2 uncounted c.self.invariant.records in
    let rest = swept_plane m new.board new.union ys new.pool rows new.dying.items (vec_capacity new.dying) c.sweep.ensures.swept calm c.sweep.ensures.joined c.sweep.ensures.dying c.sweep.ensures.empty room records in
    let q : Plane = plane_of new.board new.union new.pool rows in
    let after : IsPlane q = told_of q new.board new.union new.pool rows new.dying.items (vec_capacity new.dying) refl rest c.sweep.ensures.told c.count.ensures.interned in
    let here : IsPlaneScanned (plane_of b u xs rows) q = record {
      words = s.0;
      each = s.1;
      rests = s.3;
      copies = ap (λ (x : Board). x.union.retired) c.sweep.ensures.swept.frame ∙ (ap (λ (x : Board). x.union.retired) s.2 ∙ looks_leave s.0 0 b (omega (arith, s.1, c.tells.ensures.limits.some)));
      mid = ys;
      counted = subst (λ (x : Board). IsUncounted b x xs ys) s.2 uncounted;
      swept = subst (λ (x : Board). IsSwept x q.board ys q.objects) s.2 c.sweep.ensures.swept;
      records = refl;
      spare = omega (arith, c.look_all.ensures.spare, c.drop_left.ensures.spare, c.sweep.ensures.spare);
    } in
    let scanned : IsPlaneScanned p q = subst (λ (v : Plane). IsPlaneScanned v q) is here in
    scanned_promise p q told after scanned

pub returns-clause-scanned : goal.returns-clause-scanned
returns-clause-scanned g c =
    let p = c.args.self.now.plane in
    let b = c.self.inside.board in
    let u = c.self.inside.union in
    let xs = c.self.inside.pool in
    let rows = c.self.inside.table in
    let ds = c.self.inside.dying.items in
    let size = vec_capacity c.self.inside.dying in
    let is = ap (λ (v : Whole). v.plane) c.self.view_is in
    let told : IsPlane p = told_of p b u xs rows ds size is c.self.invariant c.tells.ensures c.count.ensures.interned in
    let m = c.look_all.new.board in
    let ys = c.drop_left.new.pool in
    let s = c.look_all.ensures.scanned in
    let new = c.sweep.new in
    let calm = subst (λ (q : Board). IsAcyclic (Edge (union_of q))) (sym s.2) (scans_acyclic 0 s.0 b c.self.invariant.acyclic) in
    let same = ap (λ (q : Board). q.objects) s.2 ∙ scans_objects 0 s.0 b in
    let room : m.objects ≤ vec_capacity new.dying = omega (arith, same, c.self.invariant.roomy, c.drop_left.ensures.kept, c.sweep.ensures.room) in
    let uncounted : IsUncounted b m xs ys = dropped_uncounted b m u.left c.look_all.new.union.left xs ys c.self.invariant.joined.left c.drop_left.ensures.dropped c.look_all.ensures.counts in
    let records = records_scanned b m s.0 xs ys rows s.2 uncounted c.self.invariant.records in
    let rest = swept_plane m new.board new.union ys new.pool rows new.dying.items (vec_capacity new.dying) c.sweep.ensures.swept calm c.sweep.ensures.joined c.sweep.ensures.dying c.sweep.ensures.empty room records in
    let q : Plane = plane_of new.board new.union new.pool rows in
    let after : IsPlane q = told_of q new.board new.union new.pool rows new.dying.items (vec_capacity new.dying) refl rest c.sweep.ensures.told c.count.ensures.interned in
    let here : IsPlaneScanned (plane_of b u xs rows) q = record {
      words = s.0;
      each = s.1;
      rests = s.3;
      copies = ap (λ (x : Board). x.union.retired) c.sweep.ensures.swept.frame ∙ (ap (λ (x : Board). x.union.retired) s.2 ∙ looks_leave s.0 0 b (omega (arith, s.1, c.tells.ensures.limits.some)));
      mid = ys;
      counted = subst (λ (x : Board). IsUncounted b x xs ys) s.2 uncounted;
      swept = subst (λ (x : Board). IsSwept x q.board ys q.objects) s.2 c.sweep.ensures.swept;
      records = refl;
      spare = omega (arith, c.look_all.ensures.spare, c.drop_left.ensures.spare, c.sweep.ensures.spare);
    } in
    let scanned : IsPlaneScanned p q = subst (λ (v : Plane). IsPlaneScanned v q) is here in
    let copies : length c.drop_left.new.union.union.retired ≡ length m.union.retired = copies_are m c.drop_left.new.union c.drop_left.ensures.loose.same in
    let kept : length q.board.union.retired ≡ length m.union.retired = ap (λ (x : Board). length x.union.retired) c.sweep.ensures.swept.frame in
    scanned_seen p q told after scanned c.retired-left.result (omega (arith, copies, kept, c.retired-left.ensures))
