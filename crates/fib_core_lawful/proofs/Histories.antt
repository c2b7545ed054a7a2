-- Results stay right as the history grows, and a finished pass has a right result.
use Rattle.std.proofs.Common.{◌≡◌, ℕ, zero, suc, ◌<◌, ◌≤◌, ◌⊎◌, inl, inr, ⊎_elim, List, [], ◌∷◌, ◌++◌, length, refl, sym, ap, ◌∙◌, subst, arith, length-append}
use Rattle.std.specs.Prelude.{Some, slice_get}
use Rattle.std.proofs.lemmas.Option.{slice_get_within}
use Rattle.fib_reach.specs.Walks.{AllDiffer}
use Rattle.fib_resolve.specs.Resolution.{resolve}
use Rattle.fib_resolve.specs.declared.types.End.{End}
use Rattle.fib_resolve.specs.declared.types.End.TheVariants as answers
use Rattle.fib_resolve.specs.declared.types.Tables.{Tables}
use Rattle.fib_core_results.specs.declared.record.Record.{Record}
use Rattle.fib_core_results.specs.declared.record.Version.{Version}
use Rattle.fib_core_results.specs.Trails.{AtLeast, IsSpanned, IsRecordOk}
use Rattle.fib_core.specs.Walk.{Place, ply, balance, adjacency, ended, end_at, Heads}
use Rattle.fib_core.specs.Trails.{Load, visited, place, Follows, Trail, result_of, trail_at, finished, AreLawful, IsEndOf}
use Rattle.fib_core.proofs.Walks.{arrives_once}
use Rattle.fib_core_lawful.specs.State.{Log, greater}
use Rattle.fib_core_lawful.specs.Lawful.{IsTold, IsEndSince, EndsLawfully, AimsOnce}

pub get_front : {A : Type 0} (xs ys : List A) (k : ℕ) → k < length xs → slice_get (xs ++ ys) k ≡ slice_get xs k
get_front [] ys k lt = absurd (none k lt)
  where
    none : (k : ℕ) → k < 0 → ⊥
    none k lt = omega arith
get_front (x ∷ xs) ys zero lt = refl
get_front (x ∷ xs) ys (suc k) lt = get_front xs ys k (less k (length xs) lt)
  where
    less : (k n : ℕ) → suc k < suc n → k < n
    less k n lt = omega arith

pub get_last : {A : Type 0} (xs : List A) (y : A) → slice_get (xs ++ y ∷ []) (length xs) ≡ Some y
get_last [] y = refl
get_last (x ∷ xs) y = get_last xs y

get_more : (H : List Tables) (S T : Tables) (k : ℕ) → slice_get H k ≡ Some T → slice_get (H ++ S ∷ []) k ≡ Some T
get_more H S T k e = get_front H (S ∷ []) k (slice_get_within H k T e) ∙ e

pub end_grows : (H : List Tables) (S : Tables) (low high low' high' : ℕ) (e : End) → low' ≤ low → high ≤ high' → IsEndOf H low high e → IsEndOf (H ++ S ∷ []) low' high' e
end_grows H S low high low' high' e a b x =
    let from = x.from in
    let to = x.to in
    record { version = x.version; tables = x.tables; from = omega arith; to = omega arith; held = get_more H S x.tables x.version x.held; end = x.end }

pub end_widens : (H : List Tables) (low high low' high' : ℕ) (e : End) → low' ≤ low → high ≤ high' → IsEndOf H low high e → IsEndOf H low' high' e
end_widens H low high low' high' e a b x =
    let from = x.from in
    let to = x.to in
    record { version = x.version; tables = x.tables; from = omega arith; to = omega arith; held = x.held; end = x.end }

ok_grows : (H : List Tables) (S : Tables) (r : Record) → IsRecordOk H r → IsRecordOk (H ++ S ∷ []) r
ok_grows H S r o = record {
  order = o.order;
  low = o.low;
  high = o.high;
  inside = (let a = o.inside in let n = length-append H (S ∷ []) in omega arith);
  quiet = λ k T at held. o.quiet k T at (sym (get_front H (S ∷ []) k (subst (λ n. n < length H) (ap (λ v. v.applied) at.hi) o.inside)) ∙ held);
  wide = λ apart. ⊎_elim (λ (d : r.end ≡ answers.Drop). inl d) (λ (s : IsSpanned H r). inr (record { version = s.version; tables = s.tables; from = s.from; to = s.to; held = get_more H S s.tables s.version s.held; end = s.end })) (o.wide apart);
}

pub all_grow : (H : List Tables) (S : Tables) (ts : List Trail) → AreLawful H ts → AreLawful (H ++ S ∷ []) ts
all_grow H S [] h = tt
all_grow H S (t ∷ ts) h = (record { apart = h.0.apart; right = λ a b f. ok_grows H S (result_of t a b) (h.0.right a b f) }, all_grow H S ts h.1)

pub all_append : (H : List Tables) (ts us : List Trail) → AreLawful H ts → AreLawful H us → AreLawful H (ts ++ us)
all_append H [] us a b = b
all_append H (t ∷ ts) us a b = (a.0, all_append H ts us a.1 b)

pub told_self : (v : Version) → v.settled ≤ v.applied → IsTold v v
told_self v le = record { order = le; last = record { settled = same v.settled; applied = same v.applied } }
  where
    same : (n : ℕ) → n ≤ n
    same n = omega arith

pub told_later : (now next knows : Version) → AtLeast now next → IsTold now knows → IsTold next knows
told_later now next knows later t =
    let a = t.last.settled in
    let b = t.last.applied in
    let c = later.settled in
    let d = later.applied in
    record { order = t.order; last = record { settled = omega arith; applied = omega arith } }

pub told_greater : (now v w : Version) → IsTold now v → IsTold now w → IsTold now (greater v w)
told_greater now v w s t =
    let a = s.last.settled in
    let b = s.last.applied in
    let c = t.last.settled in
    let d = t.last.applied in
    let e = s.order in
    let f = t.order in
    record { order = omega arith; last = record { settled = omega arith; applied = omega arith } }

-- a pass that has its end and has loaded the version has a right result
module _ (cells : List ℕ) (l : Log) (lo : Version) (t : List Load) (fits : l.version.applied < length l.history) (order : l.version.settled ≤ l.version.applied) (aimed : EndsLawfully cells l lo t) where
  since_spanned : (r : Record) → r.lo ≡ lo → r.hi ≡ l.version → IsEndSince l lo.settled r.end → (r.end ≡ answers.Drop) ⊎ IsSpanned l.history r
  since_spanned r is his s = ⊎_elim (λ (d : r.end ≡ answers.Drop). inl d)
      (λ (x : IsEndOf l.history lo.settled l.version.applied r.end). inr (record { version = x.version; tables = x.tables; from = subst (λ v. v.settled ≤ x.version) (sym is) x.from; to = subst (λ v. x.version ≤ v.applied) (sym his) x.to; held = x.held; end = x.end }))
      s

  result_right : (e : End) → place t ≡ ended e → (a h : ℕ) → Follows a h t → IsRecordOk l.history (result_of (record { lo = lo; loads = t; hi = l.version }) a h)
  result_right e is a h f =
      let r : Record = result_of (record { lo = lo; loads = t; hi = l.version }) a h in
      record {
        order = aimed.low.last;
        low = aimed.low.order;
        high = order;
        inside = fits;
        quiet = λ k S at held. arrives_once cells a h 0 (aimed.right a h k S f at.lo at.hi held).0 (place t) (end_at (place t)) (resolve S a h) (is ∙ ap ended (sym (ap end_at is))) (aimed.right a h k S f at.lo at.hi held).1;
        wide = λ apart. since_spanned r refl refl (subst (IsEndSince l lo.settled) (sym (ap end_at is)) (subst (Heads (IsEndSince l lo.settled) cells) is (aimed.heads a h f)));
      }

  trail_right : (q : Place) → place t ≡ q → AllDiffer (visited t) → AreLawful l.history (trail_at q (record { lo = lo; loads = t; hi = l.version }))
  trail_right (ply o d) is apart = tt
  trail_right (balance o n) is apart = tt
  trail_right (adjacency o ws) is apart = tt
  trail_right (ended e) is apart = (record { apart = apart; right = λ a h f. result_right e is a h f }, tt)

pub finished_right : (cells : List ℕ) (l : Log) (lo : Version) (t : List Load) → l.version.applied < length l.history → l.version.settled ≤ l.version.applied → AimsOnce cells l lo t → AllDiffer (visited t) → AreLawful l.history (finished lo t (Some l.version))
finished_right cells l lo [] fits order aimed apart = tt
finished_right cells l lo (x ∷ t) fits order aimed apart = trail_right cells l lo (x ∷ t) fits order aimed (place (x ∷ t)) refl apart
