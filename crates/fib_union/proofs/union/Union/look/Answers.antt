use Rattle.std.proofs.Common.{arith, ◌≡◌, ◌<◌, ◌+◌, ◌++◌, ℕ, List, eqb, length, set, take, drop, map, ap, sym, ◌∙◌, subst, vec_capacity}
use Rattle.std.specs.Prelude.{slice_index, count_by}
use Rattle.fib_union.specs.Marks.{next_mark}
use Rattle.fib_union.specs.Unions.{Kept}
use Rattle.fib_union.specs.declared.retired.Progress.{Progress}
use Rattle.fib_union.specs.inner.Fields.{IsProgress, IsLinked, mark_of, plain, least_of, receded}
use Rattle.std.proofs.lemmas.List.{length-map}
use Rattle.fib_union.proofs.Leaving.{given_back}
use Rattle.fib_union.proofs.Looking.{gone_few, all_counted, may_recede, look_union, look_left, look_kept, long, long_left, spare_more, oldest_leave}
use Rattle.fib_union.proofs.union.Union.look.Goals as goal

pub drop_oldest-requires-clause-gone : goal.drop_oldest-requires-clause-gone
drop_oldest-requires-clause-gone c =
    let h = c.self.invariant.0 in
    let os = c.self.inside.retired.items in
    let ps = c.self.inside.progress.items in
    let p = c.index-progress.result.now in
    let q = c.look_on.result in
    let v = ap (λ (k : Kept). k.workers) c.self.view_is in
    let here : c.args.worker < length ps = omega (arith, v, c.requires) in
    let count : c.len-count.result ≡ length os = omega (arith, c.len-count.ensures, c.self.inside.retired.ok.0) in
    let kept : IsProgress (length os) q = subst (λ (m : ℕ). IsProgress m q) count c.look_on.ensures.kept in
    let told : (i : ℕ) → i < length os → mark_of i q ≡ next_mark c.args.word (mark_of i p) = (λ i lt. c.look_on.ensures.marks i (omega (arith, lt, count))) in
    let gone_is : c.least-gone.result ≡ least_of (length os) (set ps c.args.worker q) = c.least-gone.ensures ∙ (ap (λ (l : List Progress). least_of c.len-count.result l) c.as_slice.ensures.value ∙ ap (λ (m : ℕ). least_of m (set ps c.args.worker q)) count) in
    omega (arith, gone_is, gone_few h c.args.worker c.args.word p q here c.index-progress.ensures kept told)

pub drop_oldest-requires-clause-counted : goal.drop_oldest-requires-clause-counted
drop_oldest-requires-clause-counted c =
    rw c.deref_mut.ensures.value (all_counted c.self.invariant.0)

pub recede-requires : goal.recede-requires
recede-requires c =
    let h = c.self.invariant.0 in
    let os = c.self.inside.retired.items in
    let ps = c.self.inside.progress.items in
    let p = c.index-progress.result.now in
    let q = c.look_on.result in
    let v = ap (λ (k : Kept). k.workers) c.self.view_is in
    let here : c.args.worker < length ps = omega (arith, v, c.requires) in
    let count : c.len-count.result ≡ length os = omega (arith, c.len-count.ensures, c.self.inside.retired.ok.0) in
    let kept : IsProgress (length os) q = subst (λ (m : ℕ). IsProgress m q) count c.look_on.ensures.kept in
    let told : (i : ℕ) → i < length os → mark_of i q ≡ next_mark c.args.word (mark_of i p) = (λ i lt. c.look_on.ensures.marks i (omega (arith, lt, count))) in
    let gone_is : c.least-gone.result ≡ least_of (length os) (set ps c.args.worker q) = c.least-gone.ensures ∙ (ap (λ (l : List Progress). least_of c.len-count.result l) c.as_slice.ensures.value ∙ ap (λ (m : ℕ). least_of m (set ps c.args.worker q)) count) in
    rw (c.deref_mut-2.ensures.value, gone_is) (may_recede h c.args.worker c.args.word p q here c.index-progress.ensures kept told)

pub invariant_of-self : goal.invariant_of-self
invariant_of-self c =
    let h = c.self.invariant.0 in
    let os = c.self.inside.retired.items in
    let ps = c.self.inside.progress.items in
    let p = c.index-progress.result.now in
    let q = c.look_on.result in
    let v = ap (λ (k : Kept). k.workers) c.self.view_is in
    let here : c.args.worker < length ps = omega (arith, v, c.requires) in
    let count : c.len-count.result ≡ length os = omega (arith, c.len-count.ensures, c.self.inside.retired.ok.0) in
    let kept : IsProgress (length os) q = subst (λ (m : ℕ). IsProgress m q) count c.look_on.ensures.kept in
    let told : (i : ℕ) → i < length os → mark_of i q ≡ next_mark c.args.word (mark_of i p) = (λ i lt. c.look_on.ensures.marks i (omega (arith, lt, count))) in
    let gone_is : c.least-gone.result ≡ least_of (length os) (set ps c.args.worker q) = c.least-gone.ensures ∙ (ap (λ (l : List Progress). least_of c.len-count.result l) c.as_slice.ensures.value ∙ ap (λ (m : ℕ). least_of m (set ps c.args.worker q)) count) in
    let e_os : map plain c.drop_oldest.new.retired.items ≡ drop (least_of (length os) (set ps c.args.worker q)) (map plain os) = c.drop_oldest.ensures.retired ∙ ap (λ (g : ℕ). drop g (map plain os)) gone_is in
    let e_ps : c.recede.new.progress ≡ map (receded (least_of (length os) (set ps c.args.worker q))) (set ps c.args.worker q) = c.recede.ensures ∙ (ap (λ (l : List Progress). map (receded c.least-gone.result) l) c.deref_mut-2.ensures.value ∙ ap (λ (g : ℕ). map (receded g) (set ps c.args.worker q)) gone_is) in
    let e_left : c.drop_oldest.new.left.items ≡ c.self.inside.left.items ++ map (λ (d : ℕ × ℕ). d.1) (take (least_of (length os) (set ps c.args.worker q)) (map plain os)) = c.drop_oldest.ensures.left ∙ ap (λ (g : ℕ). c.self.inside.left.items ++ map (λ (d : ℕ × ℕ). d.1) (take g (map plain os))) gone_is in
    let len : length c.drop_oldest.new.ins ≡ length c.self.inside.ins.items = c.drop_oldest.ensures.len ∙ ap (λ (l : List ℕ). length l) c.deref_mut.ensures.value in
    let linked : IsLinked (length c.self.inside.newest) c.drop_oldest.new.newest c.drop_oldest.new.retired.items = c.drop_oldest.ensures.linked in
    let less : (o : ℕ) → slice_index c.drop_oldest.new.ins o + count_by (λ (d : ℕ × ℕ). eqb d.1 o) (take (least_of (length os) (set ps c.args.worker q)) (map plain os)) ≡ slice_index c.self.inside.ins.items o = (λ o. ap (λ (g : ℕ). slice_index c.drop_oldest.new.ins o + count_by (λ (d : ℕ × ℕ). eqb d.1 o) (take g (map plain os))) (sym gone_is) ∙ (c.drop_oldest.ensures.ins o ∙ ap (λ (l : List ℕ). slice_index l o) c.deref_mut.ensures.value)) in
    let g_ins : take c.self.inside.ins.len (c.drop_oldest.new.ins ++ drop (length c.drop_oldest.new.ins) c.self.inside.ins.items) ≡ c.drop_oldest.new.ins = given_back c.self.inside.ins.len c.drop_oldest.new.ins _ (omega (arith, len, c.self.inside.ins.ok.0)) in
    let g_ps : take c.self.inside.progress.len (c.recede.new.progress ++ drop (length c.recede.new.progress) (set ps c.args.worker q)) ≡ c.recede.new.progress = given_back c.self.inside.progress.len c.recede.new.progress _ (omega (arith, c.recede.auto.progress, c.deref_mut-2.ensures.len)) in
    rw (g_ins, g_ps) (look_kept h c.args.worker c.args.word p q here c.index-progress.ensures kept told c.drop_oldest.new.ins c.drop_oldest.new.retired.items c.drop_oldest.new.newest c.recede.new.progress c.drop_oldest.new.left.items (vec_capacity c.drop_oldest.new.left) e_os e_ps len linked less e_left c.drop_oldest.ensures.room, c.self.invariant.1 ∙ sym len)

pub returns-clause-union : goal.returns-clause-union
returns-clause-union c =
    let h = c.self.invariant.0 in
    let os = c.self.inside.retired.items in
    let ps = c.self.inside.progress.items in
    let p = c.index-progress.result.now in
    let q = c.look_on.result in
    let v = ap (λ (k : Kept). k.workers) c.self.view_is in
    let here : c.args.worker < length ps = omega (arith, v, c.requires) in
    let count : c.len-count.result ≡ length os = omega (arith, c.len-count.ensures, c.self.inside.retired.ok.0) in
    let kept : IsProgress (length os) q = subst (λ (m : ℕ). IsProgress m q) count c.look_on.ensures.kept in
    let told : (i : ℕ) → i < length os → mark_of i q ≡ next_mark c.args.word (mark_of i p) = (λ i lt. c.look_on.ensures.marks i (omega (arith, lt, count))) in
    let gone_is : c.least-gone.result ≡ least_of (length os) (set ps c.args.worker q) = c.least-gone.ensures ∙ (ap (λ (l : List Progress). least_of c.len-count.result l) c.as_slice.ensures.value ∙ ap (λ (m : ℕ). least_of m (set ps c.args.worker q)) count) in
    let e_os : map plain c.drop_oldest.new.retired.items ≡ drop (least_of (length os) (set ps c.args.worker q)) (map plain os) = c.drop_oldest.ensures.retired ∙ ap (λ (g : ℕ). drop g (map plain os)) gone_is in
    let e_ps : c.recede.new.progress ≡ map (receded (least_of (length os) (set ps c.args.worker q))) (set ps c.args.worker q) = c.recede.ensures ∙ (ap (λ (l : List Progress). map (receded c.least-gone.result) l) c.deref_mut-2.ensures.value ∙ ap (λ (g : ℕ). map (receded g) (set ps c.args.worker q)) gone_is) in
    let g_ps : take c.self.inside.progress.len (c.recede.new.progress ++ drop (length c.recede.new.progress) (set ps c.args.worker q)) ≡ c.recede.new.progress = given_back c.self.inside.progress.len c.recede.new.progress _ (omega (arith, c.recede.auto.progress, c.deref_mut-2.ensures.len)) in
    rw (g_ps, ← c.self.view_is) (look_union h c.args.worker c.args.word p q here c.index-progress.ensures kept told c.drop_oldest.new.retired.items c.recede.new.progress e_os e_ps)

pub returns-clause-left : goal.returns-clause-left
returns-clause-left c =
    let h = c.self.invariant.0 in
    let os = c.self.inside.retired.items in
    let ps = c.self.inside.progress.items in
    let p = c.index-progress.result.now in
    let q = c.look_on.result in
    let v = ap (λ (k : Kept). k.workers) c.self.view_is in
    let here : c.args.worker < length ps = omega (arith, v, c.requires) in
    let count : c.len-count.result ≡ length os = omega (arith, c.len-count.ensures, c.self.inside.retired.ok.0) in
    let kept : IsProgress (length os) q = subst (λ (m : ℕ). IsProgress m q) count c.look_on.ensures.kept in
    let told : (i : ℕ) → i < length os → mark_of i q ≡ next_mark c.args.word (mark_of i p) = (λ i lt. c.look_on.ensures.marks i (omega (arith, lt, count))) in
    let gone_is : c.least-gone.result ≡ least_of (length os) (set ps c.args.worker q) = c.least-gone.ensures ∙ (ap (λ (l : List Progress). least_of c.len-count.result l) c.as_slice.ensures.value ∙ ap (λ (m : ℕ). least_of m (set ps c.args.worker q)) count) in
    let e_left : c.drop_oldest.new.left.items ≡ c.self.inside.left.items ++ map (λ (d : ℕ × ℕ). d.1) (take (least_of (length os) (set ps c.args.worker q)) (map plain os)) = c.drop_oldest.ensures.left ∙ ap (λ (g : ℕ). c.self.inside.left.items ++ map (λ (d : ℕ × ℕ). d.1) (take g (map plain os))) gone_is in
    rw (← c.self.view_is) (look_left h c.args.worker c.args.word p q here c.index-progress.ensures kept told c.drop_oldest.new.left.items e_left)

pub returns-clause-spare : goal.returns-clause-spare
returns-clause-spare c =
    let h = c.self.invariant.0 in
    let os = c.self.inside.retired.items in
    let ps = c.self.inside.progress.items in
    let p = c.index-progress.result.now in
    let q = c.look_on.result in
    let v = ap (λ (k : Kept). k.workers) c.self.view_is in
    let here : c.args.worker < length ps = omega (arith, v, c.requires) in
    let count : c.len-count.result ≡ length os = omega (arith, c.len-count.ensures, c.self.inside.retired.ok.0) in
    let kept : IsProgress (length os) q = subst (λ (m : ℕ). IsProgress m q) count c.look_on.ensures.kept in
    let told : (i : ℕ) → i < length os → mark_of i q ≡ next_mark c.args.word (mark_of i p) = (λ i lt. c.look_on.ensures.marks i (omega (arith, lt, count))) in
    let gone_is : c.least-gone.result ≡ least_of (length os) (set ps c.args.worker q) = c.least-gone.ensures ∙ (ap (λ (l : List Progress). least_of c.len-count.result l) c.as_slice.ensures.value ∙ ap (λ (m : ℕ). least_of m (set ps c.args.worker q)) count) in
    let e_os : map plain c.drop_oldest.new.retired.items ≡ drop (least_of (length os) (set ps c.args.worker q)) (map plain os) = c.drop_oldest.ensures.retired ∙ ap (λ (g : ℕ). drop g (map plain os)) gone_is in
    let e_ps : c.recede.new.progress ≡ map (receded (least_of (length os) (set ps c.args.worker q))) (set ps c.args.worker q) = c.recede.ensures ∙ (ap (λ (l : List Progress). map (receded c.least-gone.result) l) c.deref_mut-2.ensures.value ∙ ap (λ (g : ℕ). map (receded g) (set ps c.args.worker q)) gone_is) in
    let e_left : c.drop_oldest.new.left.items ≡ c.self.inside.left.items ++ map (λ (d : ℕ × ℕ). d.1) (take (least_of (length os) (set ps c.args.worker q)) (map plain os)) = c.drop_oldest.ensures.left ∙ ap (λ (g : ℕ). c.self.inside.left.items ++ map (λ (d : ℕ × ℕ). d.1) (take g (map plain os))) gone_is in
    let len : length c.drop_oldest.new.ins ≡ length c.self.inside.ins.items = c.drop_oldest.ensures.len ∙ ap (λ (l : List ℕ). length l) c.deref_mut.ensures.value in
    let linked : IsLinked (length c.self.inside.newest) c.drop_oldest.new.newest c.drop_oldest.new.retired.items = c.drop_oldest.ensures.linked in
    let less : (o : ℕ) → slice_index c.drop_oldest.new.ins o + count_by (λ (d : ℕ × ℕ). eqb d.1 o) (take (least_of (length os) (set ps c.args.worker q)) (map plain os)) ≡ slice_index c.self.inside.ins.items o = (λ o. ap (λ (g : ℕ). slice_index c.drop_oldest.new.ins o + count_by (λ (d : ℕ × ℕ). eqb d.1 o) (take g (map plain os))) (sym gone_is) ∙ (c.drop_oldest.ensures.ins o ∙ ap (λ (l : List ℕ). slice_index l o) c.deref_mut.ensures.value)) in
    let lo = long h c.args.worker c.args.word p q here c.index-progress.ensures kept told c.drop_oldest.new.ins c.drop_oldest.new.retired.items c.drop_oldest.new.newest c.recede.new.progress c.drop_oldest.new.left.items (vec_capacity c.drop_oldest.new.left) e_os e_ps len linked less e_left c.drop_oldest.ensures.room in
    let ll = long_left h c.args.worker c.args.word p q here c.index-progress.ensures kept told c.drop_oldest.new.ins c.drop_oldest.new.retired.items c.drop_oldest.new.newest c.recede.new.progress c.drop_oldest.new.left.items (vec_capacity c.drop_oldest.new.left) e_os e_ps len linked less e_left c.drop_oldest.ensures.room in
    rw (← c.self.view_is, lo, ll) (spare_more (vec_capacity c.self.inside.retired) (length os) (vec_capacity c.self.inside.left) (length c.self.inside.left.items) (vec_capacity c.drop_oldest.new.retired) (vec_capacity c.drop_oldest.new.left) (least_of (length os) (set ps c.args.worker q)) (gone_few h c.args.worker c.args.word p q here c.index-progress.ensures kept told) c.drop_oldest.ensures.capacity c.drop_oldest.ensures.room)

pub returns-clause-oldest_leave : goal.returns-clause-oldest_leave
returns-clause-oldest_leave c =
    let h = c.self.invariant.0 in
    let os = c.self.inside.retired.items in
    let ps = c.self.inside.progress.items in
    let p = c.index-progress.result.now in
    let q = c.look_on.result in
    let v = ap (λ (k : Kept). k.workers) c.self.view_is in
    let here : c.args.worker < length ps = omega (arith, v, c.requires) in
    let count : c.len-count.result ≡ length os = omega (arith, c.len-count.ensures, c.self.inside.retired.ok.0) in
    let kept : IsProgress (length os) q = subst (λ (m : ℕ). IsProgress m q) count c.look_on.ensures.kept in
    let told : (i : ℕ) → i < length os → mark_of i q ≡ next_mark c.args.word (mark_of i p) = (λ i lt. c.look_on.ensures.marks i (omega (arith, lt, count))) in
    let gone_is : c.least-gone.result ≡ least_of (length os) (set ps c.args.worker q) = c.least-gone.ensures ∙ (ap (λ (l : List Progress). least_of c.len-count.result l) c.as_slice.ensures.value ∙ ap (λ (m : ℕ). least_of m (set ps c.args.worker q)) count) in
    let size : length (map plain os) ≡ length os = length-map os plain in
    rw (← c.self.view_is) (oldest_leave c.self.inside.edges.items c.self.inside.edges.items (map plain os) (map plain c.drop_oldest.new.retired.items) ps _ c.least-gone.result (omega (arith, size, gone_is, gone_few h c.args.worker c.args.word p q here c.index-progress.ensures kept told)) c.drop_oldest.ensures.retired)
