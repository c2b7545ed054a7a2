-- What the calls of a pool keep.
use Rattle.std.proofs.Common.{arith, ◌≡◌, ◌≢◌, ℕ, zero, suc, ◌+◌, ◌-◌, ◌<◌, ◌≤◌, ◌↔◌, inl, inr, cond, eqb-true, eq-eqb, List, [], ◌∷◌, ◌++◌, length, get_or, set, Option, Some, None, refl, sym, ◌∙◌, ap, subst, get_or-set_same, get_or-set_other, length-set}
use Rattle.std.specs.Prelude.{IsTrue, replicate, slice_index, nat_eq}
use Rattle.std.proofs.lemmas.Bool.{cases_lt}
use Rattle.std.proofs.lemmas.List.{get_or_default, length_push, get_or_append_left, get_or_push, get_or_past, get_or-replicate, length-replicate}
use Rattle.std.proofs.lemmas.List.Sums.{sum_by-set, sum_by-cons, count_by-le-length}
use Rattle.fib_pool.specs.declared.object.Object.{Object}
use Rattle.fib_pool.specs.Objects.{at, count_in, count_of, is_free, free_in, recount, with_count, IsLive, IsDying}
use Rattle.fib_pool.specs.inner.Idle.{IsPool}

pub none_some : {x : Object} → None ≡ Some x → ⊥
none_some e = cc

pub at_in : (objects : List (Option Object)) (o : ℕ) (x : Object) → at objects o ≡ Some x → o < length objects
at_in objects o x e = elim (cases_lt o (length objects)) [
  | inl lt ↦ lt
  | inr ge ↦ absurd (none_some (sym (get_or_past objects o None ge) ∙ e))
]

pub live_at : (objects : List (Option Object)) (o : ℕ) → IsLive objects o → (x : Object) × (at objects o ≡ Some x)
live_at objects o live = by_case (at objects o) refl live
  where
    by_case : (e : Option Object) → at objects o ≡ e → 0 < count_in e → (x : Object) × (at objects o ≡ Some x)
    by_case None is l = absurd (omega arith)
    by_case (Some x) is l = (x, is)

abbrev unit_of : Option Object → ℕ
unit_of e = cond (is_free e) 1 0

pub free_set : (objects : List (Option Object)) (o : ℕ) (e : Option Object) → o < length objects → free_in (set objects o e) + unit_of (at objects o) ≡ free_in objects + unit_of e
unfolding free_in
free_set objects o e lt = sum_by-set (λ x. cond (is_free x) 1 0) objects o e None lt

pub free_few : (objects : List (Option Object)) → free_in objects ≤ length objects
unfolding free_in
free_few objects = count_by-le-length is_free objects

module _ (objects : List (Option Object)) (idle : List ℕ) (room : ℕ) (h : IsPool objects idle room) where
  pub idle_few : length idle ≤ length objects
  idle_few = (let c = h.counted in let f = free_few objects in omega arith)

  module _ (o : ℕ) (x : Object) (is : at objects o ≡ Some x) where
    inside : o < length objects
    inside = at_in objects o x is

    other : (i : ℕ) → i < length idle → slice_index idle i ≢ o
    other i lt e = none_some (sym (h.free i lt).1 ∙ (ap (λ (j : ℕ). at objects j) e ∙ is))

    still_free : (e : Option Object) (i : ℕ) → i < length idle → (slice_index idle i < length (set objects o e)) × (at (set objects o e) (slice_index idle i) ≡ None)
    still_free e i lt = (let l : length (set objects o e) ≡ length objects = length-set objects o e in let f = (h.free i lt).0 in omega arith, get_or-set_other objects o (slice_index idle i) e None (other i lt) ∙ (h.free i lt).1)

    pub free_same : (y : Object) → free_in (set objects o (Some y)) ≡ free_in objects
    free_same y = (let f = free_set objects o (Some y) inside in let z : ◌≡◌ {A = ℕ} (unit_of (at objects o)) 0 = ap unit_of is in omega arith)

    -- another count
    pub kept_count : (y : Object) → IsPool (set objects o (Some y)) idle room
    kept_count y = record {
      few = (let l : length (set objects o (Some y)) ≡ length objects = length-set objects o (Some y) in let f = h.few in omega arith);
      roomy = (let l : length (set objects o (Some y)) ≡ length objects = length-set objects o (Some y) in let f = h.roomy in omega arith);
      counted = h.counted ∙ sym (free_same y);
      free = still_free (Some y);
      apart = h.apart;
    }

    pub free_more : free_in (set objects o None) ≡ free_in objects + 1
    free_more = (let f = free_set objects o None inside in let z : ◌≡◌ {A = ℕ} (unit_of (at objects o)) 0 = ap unit_of is in omega arith)

    pub idle_room : length idle < room
    idle_room = (let m = free_more in let f = free_few (set objects o None) in let l : length (set objects o None) ≡ length objects = length-set objects o None in let c = h.counted in let r = h.roomy in omega arith)

    -- given back
    pub kept_back : (idle' : List ℕ) (room' : ℕ) → idle' ≡ idle ++ o ∷ [] → room ≤ room' → IsPool (set objects o None) idle' room'
    kept_back idle' room' e more = subst (λ (l : List ℕ). IsPool (set objects o None) l room') (sym e) (record {
      few = (let l : length (set objects o None) ≡ length objects = length-set objects o None in let f = h.few in omega arith);
      roomy = (let l : length (set objects o None) ≡ length objects = length-set objects o None in let f = h.roomy in omega arith);
      counted = (let p = length_push idle o in let c = h.counted in let m = free_more in omega arith);
      free = λ i lt. elim (cases_lt i (length idle)) [
        | inl old ↦ subst (λ (q : ℕ). (q < length (set objects o None)) × (at (set objects o None) q ≡ None)) (sym (get_or_append_left idle (o ∷ []) 0 i old)) (still_free None i old)
        | inr new ↦ subst (λ (q : ℕ). (q < length (set objects o None)) × (at (set objects o None) q ≡ None)) (sym (get_or_push idle o 0 i (let p = length_push idle o in omega arith)))
            (let l : length (set objects o None) ≡ length objects = length-set objects o None in let n = inside in omega arith, get_or-set_same objects o None None inside)
      ];
      apart = λ i j lt l. elim (cases_lt j (length idle)) [
        | inl old ↦ (λ q. h.apart i j lt old (sym (get_or_append_left idle (o ∷ []) 0 i (omega arith)) ∙ (q ∙ get_or_append_left idle (o ∷ []) 0 j old)))
        | inr new ↦ (λ q. other i (let p = length_push idle o in omega arith) (sym (get_or_append_left idle (o ∷ []) 0 i (let p = length_push idle o in omega arith)) ∙ (q ∙ get_or_push idle o 0 j (let p = length_push idle o in omega arith))))
      ];
    })

-- the last of the free ones is taken
module _ (objects : List (Option Object)) (idle rest : List ℕ) (room : ℕ) (h : IsPool objects idle room) (o : ℕ) (e : idle ≡ rest ++ o ∷ []) where
  one_more : length idle ≡ length rest + 1
  one_more = ap (λ (l : List ℕ). length l) e ∙ length_push rest o

  last_is : slice_index idle (length rest) ≡ o
  last_is = ap (λ (l : List ℕ). slice_index l (length rest)) e ∙ get_or_push rest o 0 (length rest) refl

  rest_is : (i : ℕ) → i < length rest → slice_index idle i ≡ slice_index rest i
  rest_is i lt = ap (λ (l : List ℕ). slice_index l i) e ∙ get_or_append_left rest (o ∷ []) 0 i lt

  last_free : (o < length objects) × (at objects o ≡ None)
  last_free = subst (λ (q : ℕ). (q < length objects) × (at objects q ≡ None)) last_is (h.free (length rest) (let m = one_more in omega arith))

  pub taken_in : o < length objects
  taken_in = last_free.0

  pub taken_free : at objects o ≡ None
  taken_free = last_free.1

  pub free_less : (y : Object) → free_in (set objects o (Some y)) + 1 ≡ free_in objects
  free_less y = (let f = free_set objects o (Some y) taken_in in let z : ◌≡◌ {A = ℕ} (unit_of (at objects o)) 1 = ap unit_of taken_free in omega arith)

  pub kept_taken : (y : Object) → IsPool (set objects o (Some y)) rest room
  kept_taken y = record {
    few = (let l : length (set objects o (Some y)) ≡ length objects = length-set objects o (Some y) in let f = h.few in omega arith);
    roomy = (let l : length (set objects o (Some y)) ≡ length objects = length-set objects o (Some y) in let f = h.roomy in omega arith);
    counted = (let m = one_more in let c = h.counted in let f = free_less y in omega arith);
    free = λ i lt. (let old : i < length idle = (let m = one_more in omega arith) in
        let f = h.free i old in
        let is = rest_is i lt in
        let ne : slice_index rest i ≢ o = (λ q. h.apart i (length rest) lt (let m = one_more in omega arith) (is ∙ (q ∙ sym last_is))) in (
          let l : length (set objects o (Some y)) ≡ length objects = length-set objects o (Some y) in let g = f.0 in omega arith,
          get_or-set_other objects o (slice_index rest i) (Some y) None ne ∙ (ap (λ (q : ℕ). at objects q) (sym is) ∙ f.1),
        ));
    apart = λ i j lt l q. h.apart i j lt (let m = one_more in omega arith) (rest_is i (omega arith) ∙ (q ∙ sym (rest_is j l)));
  }

pub counted_as : (objects : List (Option Object)) (o : ℕ) (x : Object) (n : ℕ) → at objects o ≡ Some x → set objects o (Some (record { kind = x.kind; count = n })) ≡ with_count objects o n
counted_as objects o x n is = ap (λ (e : Option Object). set objects o (recount n e)) (sym is)

pub live_in : (objects : List (Option Object)) (o : ℕ) → IsLive objects o → o < length objects
live_in objects o live = (let l = live_at objects o live in at_in objects o l.0 l.1)

pub live_read : (objects now : List (Option Object)) (o : ℕ) (r : Option Object) (x : Object) → objects ≡ now → IsLive now o → r ≡ get_or objects o r → r ≡ Some x → at objects o ≡ Some x
live_read objects now o r x view live e is = get_or_default objects o None r (live_in objects o (subst (λ (l : List (Option Object)). IsLive l o) (sym view) live)) ∙ (sym e ∙ is)

pub dying_at : (objects now : List (Option Object)) (o : ℕ) → objects ≡ now → IsDying now o → (x : Object) × (at objects o ≡ Some x)
dying_at objects now o view d = (record { kind = d.0; count = 0 }, ap (λ (l : List (Option Object)). at l o) view ∙ d.1)

-- the last count
pub last_count : (objects : List (Option Object)) (o : ℕ) (x : Object) → at objects o ≡ Some x → IsLive objects o → IsTrue (nat_eq (x.count - 1) 0) ↔ (count_of objects o ≡ 1)
last_count objects o x is live =
    let e : count_of objects o ≡ x.count = ap count_in is in
    (λ t. (let z : x.count - 1 ≡ 0 = eqb-true (x.count - 1) 0 t in omega arith), λ one. (let z : x.count - 1 ≡ 0 = omega arith in eq-eqb (x.count - 1) 0 z))

none_at : (n q : ℕ) → at (replicate n None) q ≡ None
none_at n q = elim (cases_lt q n) [
  | inl lt ↦ get_or-replicate n q None None lt
  | inr ge ↦ get_or_past (replicate n None) q None (let l : length (replicate {A = Option Object} n None) ≡ n = length-replicate n None in omega arith)
]

all_free : (n : ℕ) → free_in (replicate n None) ≡ n
unfolding free_in
all_free zero = refl
all_free (suc n) = (let a = sum_by-cons (λ (x : Option Object). cond (is_free x) 1 0) None (replicate n None) in let b = all_free n in omega arith)

pub fresh_pool : (n : ℕ) (all : List (Option Object)) (idle : List ℕ) (room : ℕ) (x : Object) → all ≡ replicate n None → 0 < n → n < 4294967296 → length idle + 1 ≡ n → ((i : ℕ) → i < length idle → get_or idle i 0 + (i + 1) ≡ n) → n ≤ room → IsPool (set all 0 (Some x)) idle room
fresh_pool n all idle room x is some few long items roomy =
    let size : length all ≡ n = ap (λ (l : List (Option Object)). length l) is ∙ length-replicate n None in
    let size' : length (set all 0 (Some x)) ≡ n = length-set all 0 (Some x) ∙ size in
    let none : (q : ℕ) → at all q ≡ None = λ q. ap (λ (l : List (Option Object)). at l q) is ∙ none_at n q in
    let free : free_in all ≡ n = ap free_in is ∙ all_free n in
    record {
      few = omega arith;
      roomy = omega arith;
      counted = (let f = free_set all 0 (Some x) (omega arith) in let z : ◌≡◌ {A = ℕ} (unit_of (at all 0)) 1 = ap unit_of (none 0) in omega arith);
      free = λ i lt. (let q = items i lt in (omega arith, get_or-set_other all 0 (slice_index idle i) (Some x) None (λ e. absurd (let bad : ⊥ = omega arith in bad)) ∙ none (slice_index idle i)));
      apart = λ i j lt l e. (let a = items i (omega arith) in let b = items j l in absurd (let bad : ⊥ = omega arith in bad));
    }
