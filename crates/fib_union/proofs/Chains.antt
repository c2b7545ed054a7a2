-- The chains of the copies of each object's edges.
use Rattle.std.proofs.Common.{arith, ◌≡◌, ◌≢◌, ℕ, zero, suc, ◌+◌, ◌-◌, ◌<◌, ◌≤◌, ◌⊎◌, inl, inr, List, [], ◌∷◌, ◌++◌, length, get_or, set, take, drop, map, refl, sym, ◌∙◌, ap, subst, get_or-set_same, get_or-set_other, length-set}
use Rattle.std.specs.Prelude.{slice_index}
use Rattle.std.proofs.lemmas.Bool.{cases_lt, cases_eq}
use Rattle.std.proofs.lemmas.List.{take_all, take-append-le, get_or_append_left, get_or_push, get_or-drop, drop-take, length_push, length-drop, length-map}
use Rattle.fib_union.proofs.Marks.{get_or-map}
use Rattle.fib_union.specs.Unions.{owner}
use Rattle.fib_union.specs.inner.Fields.{IsNewest, IsLinked, plain}
use Rattle.fib_union.specs.declared.retired.RetiredEdge.{RetiredEdge}

pub plain_at : (os : List RetiredEdge) (k : ℕ) (d : RetiredEdge) → k < length os → get_or (map plain os) k (plain d) ≡ plain (get_or os k d)
plain_at [] k d lt = absurd (omega arith)
plain_at (o ∷ os) zero d lt = refl
plain_at (o ∷ os) (suc k) d lt = plain_at os k d (omega arith)

module _ (x : ℕ) (os : List RetiredEdge) (o : RetiredEdge) where
  newest_same : owner o.cell ≡ x → IsNewest x (os ++ o ∷ []) (length os + 1)
  newest_same is = record {
    within = (let l = length_push os o in omega arith);
    after = λ i d ge lt. absurd (let l = length_push os o in omega arith);
    here = λ i d e. (let at : length os ≡ i = omega arith in ap (λ (p : RetiredEdge). owner p.cell) (get_or_push os o d i at) ∙ is);
  }

  newest_else : (m : ℕ) → IsNewest x os m → owner o.cell ≢ x → IsNewest x (os ++ o ∷ []) m
  newest_else m h ne = record {
    within = (let l = length_push os o in let w = h.within in omega arith);
    after = λ i d ge lt. elim (cases_lt i (length os)) [
      | inl in_os ↦ (λ e. h.after i d ge in_os (ap (λ (p : RetiredEdge). owner p.cell) (sym (get_or_append_left os (o ∷ []) d i in_os)) ∙ e))
      | inr past ↦ (λ e. ne (ap (λ (p : RetiredEdge). owner p.cell) (sym (get_or_push os o d i (let l = length_push os o in omega arith))) ∙ e))
    ];
    here = λ i d e. (let in_os : i < length os = (let w = h.within in omega arith) in ap (λ (p : RetiredEdge). owner p.cell) (get_or_append_left os (o ∷ []) d i in_os) ∙ h.here i d e);
  }

-- a copy more
pub linked_push : (n : ℕ) (newest : List ℕ) (os : List RetiredEdge) (o : RetiredEdge) (object : ℕ) → IsLinked n newest os → owner o.cell ≡ object → object < n → length os + 1 - o.back ≡ slice_index newest object → IsLinked n (set newest object (length os + 1)) (os ++ o ∷ [])
linked_push n newest os o object h is inside link =
    let long : length (os ++ o ∷ []) ≡ length os + 1 = length_push os o in
    let room : object < length newest = (let s = h.size in omega arith) in
    record {
      size = length-set newest object (length os + 1) ∙ h.size;
      begins = λ x l. elim (cases_eq x object) [
        | inl same ↦ subst (λ (m : ℕ). IsNewest x (os ++ o ∷ []) m)
            (sym (get_or-set_same newest object (length os + 1) 0 room) ∙ ap (λ (y : ℕ). slice_index (set newest object (length os + 1)) y) (sym same))
            (newest_same x os o (is ∙ sym same))
        | inr ne ↦ subst (λ (m : ℕ). IsNewest x (os ++ o ∷ []) m) (sym (get_or-set_other newest object x (length os + 1) 0 ne))
            (newest_else x os o (slice_index newest x) (h.begins x l) (λ e. ne (sym e ∙ is)))
      ];
      older = λ i d lt. elim (cases_lt i (length os)) [
        | inl before ↦ (let at : get_or (os ++ o ∷ []) i d ≡ get_or os i d = get_or_append_left os (o ∷ []) d i before in
            let front : take i (os ++ o ∷ []) ≡ take i os = take-append-le i os (o ∷ []) (omega arith) in
            rw (at, front) (h.older i d before))
        | inr ge ↦ (let e : i ≡ length os = omega arith in
            let at : get_or (os ++ o ∷ []) i d ≡ o = get_or_push os o d i (sym e) in
            let front : take i (os ++ o ∷ []) ≡ os = take-append-le i os (o ∷ []) (omega arith) ∙ take_all i os (omega arith) in
            rw (at, front, e, is, link) (h.begins object inside))
      ];
    }

-- the oldest copies leave

newest_drop : (x : ℕ) (os : List RetiredEdge) (m gone : ℕ) → IsNewest x os m → IsNewest x (drop gone os) (m - gone)
newest_drop x os m gone h = record {
  within = (let l = length-drop gone os in let w = h.within in omega arith);
  after = λ i d ge lt. (λ e. h.after (gone + i) d (omega arith) (let l = length-drop gone os in omega arith) (ap (λ (p : RetiredEdge). owner p.cell) (sym (get_or-drop gone os i d)) ∙ e));
  here = λ i d e. ap (λ (p : RetiredEdge). owner p.cell) (get_or-drop gone os i d) ∙ h.here (gone + i) d (omega arith);
}

pub linked_drop : (n : ℕ) (newest : List ℕ) (os : List RetiredEdge) (gone : ℕ) → IsLinked n newest os → IsLinked n (map (λ (m : ℕ). m - gone) newest) (drop gone os)
linked_drop n newest os gone h = record {
  size = length-map newest (λ (m : ℕ). m - gone) ∙ h.size;
  begins = λ x lt. subst (λ (m : ℕ). IsNewest x (drop gone os) m) (sym (get_or-map (λ (m : ℕ). m - gone) newest x 0 0 (let s = h.size in omega arith))) (newest_drop x os (slice_index newest x) gone (h.begins x lt));
  older = λ i d lt. (let at : get_or (drop gone os) i d ≡ get_or os (gone + i) d = get_or-drop gone os i d in
      let l = length-drop gone os in
      let o = get_or os (gone + i) d in
      let front : drop gone (take (gone + i) os) ≡ take i (drop gone os) = drop-take gone i os in
      let less : gone + i + 1 - o.back - gone ≡ i + 1 - o.back = omega arith in
      rw (at, ← front, ← less) (newest_drop (owner o.cell) (take (gone + i) os) (gone + i + 1 - o.back) gone (h.older (gone + i) d (omega arith))));
}

abbrev pub no_copy : RetiredEdge
no_copy = record { cell = 0; to = 0; back = 0 }
