-- What stays true where a node is entered, and where one is left.
use Rattle.std.proofs.Common.{arith, ◌≡◌, ◌≢◌, ℕ, ◌+◌, ◌-◌, ◌<◌, ◌≤◌, ◌⊎◌, inl, inr, List, [], ◌∷◌, ◌++◌, length, get_or, set, cond, false, eqb, ne_eqb, refl, sym, ◌∙◌, ap, subst, length-append, length-set, get_or-set_same, get_or-set_other}
use Rattle.std.specs.Prelude.{Contains}
use Rattle.std.specs.List.{AllPairs}
use Rattle.std.proofs.lemmas.Bool.{cases_lt}
use Rattle.std.proofs.lemmas.List.{get_or_append_left}
use Rattle.std.proofs.Math.Seq.{get_or-append_seam}
use Rattle.std.proofs.lemmas.List.Elements.{Contains-push, Contains-push_cases, Contains-append_left, Contains-get_or}
use Rattle.std.proofs.lemmas.List.Quantifiers.{all_pairs_push}
use Rattle.std.proofs.lemmas.List.Sums.{sum_by-set}
use Rattle.fib_reach.specs.Walks.{Leads}
use Rattle.fib_reach.specs.Graphs.{Edge}
use Rattle.fib_reach.proofs.Walking.{leads_self}
use Rattle.fib_reach.proofs.Visits.{same_or_not}
use Rattle.fib_loops.specs.inner.Entering.{IsEntering, AreStacked, unset}

abbrev unit_of : ℕ → ℕ
unit_of s = cond (eqb s 0) 1 0

-- a number is written where none was
pub unset_less : (xs : List ℕ) (i v : ℕ) → i < length xs → get_or xs i 0 ≡ 0 → unset (set xs i (v + 1)) + 1 ≡ unset xs
unset_less xs i v l e =
    let old : unit_of (get_or xs i 0) ≡ unit_of 0 = ap unit_of e in
    let new : unit_of (v + 1) ≡ unit_of 1 = none_at v in
    omega (arith, sum_by-set unit_of xs i (v + 1) 0 l, old, new)
  where
    none_at : (u : ℕ) → unit_of (u + 1) ≡ unit_of 1
    none_at u = let e : eqb (u + 1) 0 ≡ false = ne_eqb (u + 1) 0 (λ h. absurd (omega (arith, h))) in rw e refl

module _ (g : List (List ℕ)) (starts ranks order path : List ℕ) (v : IsEntering g starts ranks order path) (y : ℕ) (inside : y < length g) (new : get_or starts y 0 ≡ 0) (leads : (x : ℕ) → Contains path x → Leads (Edge g) x y) where
  abbrev starts' : List ℕ
  starts' = set starts y (length order + 1)

  start_at : (x : ℕ) → x ≡ y → get_or starts' x 0 ≡ length order + 1
  start_at x e = ap (λ (k : ℕ). get_or starts' k 0) e ∙ (let l : y < length starts = omega (arith, inside, v.starts_len) in rw get_or-set_same refl)

  start_else : (x : ℕ) → x ≢ y → get_or starts' x 0 ≡ get_or starts x 0
  start_else x ne = rw get_or-set_other refl

  -- what has a start keeps it
  start_kept : (x : ℕ) → 0 < get_or starts x 0 → get_or starts' x 0 ≡ get_or starts x 0
  start_kept x h = start_else x (λ e. absurd (omega (arith, h, new, ap (λ (k : ℕ). get_or starts k 0) e)))

  start_open_kept : (x : ℕ) → Contains path x → get_or starts' x 0 ≡ get_or starts x 0
  start_open_kept x c = start_kept x (v.start_open x c)

  start_left_kept : (k : ℕ) → k < length order → get_or starts' (get_or order k 0) 0 ≡ get_or starts (get_or order k 0) 0
  start_left_kept k l = start_kept (get_or order k 0) (v.start_left k l)

  rank_none : get_or ranks y 0 ≡ 0
  rank_none = elim (cases_lt 0 (get_or ranks y 0)) [
    | inl pos ↦ (let r = v.ranked y (get_or ranks y 0 - 1) (omega (arith, pos)) in
        absurd (omega (arith, new, v.start_left (get_or ranks y 0 - 1) r.0, ap (λ (k : ℕ). get_or starts k 0) r.1)))
    | inr none ↦ omega (arith, none)
  ]

  enter_stacked : AreStacked g starts' (path ++ y ∷ [])
  enter_stacked = all_pairs_push (λ a b. (a ≢ b) × (get_or starts' a 0 ≤ get_or starts' b 0) × Leads (Edge g) a b) path y
      (λ i j d lt l. let old = v.stacked i j d lt l in
      let at_i = start_open_kept (get_or path i d) (Contains-get_or path i d (omega (arith, lt, l))) in
      let at_j = start_open_kept (get_or path j d) (Contains-get_or path j d l) in
      (old.0, omega (arith, at_i, at_j, old.1), old.2))
      (λ k d l. let c = Contains-get_or path k d l in (
        λ e. absurd (omega (arith, v.start_open (get_or path k d) c, new, ap (λ (q : ℕ). get_or starts q 0) e)),
        omega (arith, start_open_kept (get_or path k d) c, v.starts_low (get_or path k d), start_at y refl),
        leads (get_or path k d) c,
      ))

  pub node_entered : IsEntering g starts' ranks order (path ++ y ∷ [])
  node_entered = record {
    starts_len = length-set starts y (length order + 1) ∙ v.starts_len;
    ranks_len = v.ranks_len;
    sized = omega (arith, v.sized, length-append path (y ∷ []), unset_less starts y (length order) (omega (arith, inside, v.starts_len)) new);
    starts_low = λ x. elim (same_or_not x y) [ inl e ↦ omega (arith, start_at x e) | inr ne ↦ omega (arith, start_else x ne, v.starts_low x) ];
    node_left = v.node_left;
    rank_left = v.rank_left;
    start_left = λ k l. omega (arith, start_left_kept k l, v.start_left k l);
    early = λ k l. omega (arith, start_left_kept k l, v.early k l);
    ranked = v.ranked;
    node_open = λ x c. elim (Contains-push_cases path y x c) [ inl old ↦ v.node_open x old | inr e ↦ subst (λ (k : ℕ). k < length g) e inside ];
    rank_open = λ x c. elim (Contains-push_cases path y x c) [ inl old ↦ v.rank_open x old | inr e ↦ subst (λ (k : ℕ). get_or ranks k 0 ≡ 0) e rank_none ];
    start_open = λ x c. elim (Contains-push_cases path y x c) [ inl old ↦ omega (arith, start_open_kept x old, v.start_open x old) | inr e ↦ omega (arith, start_at x (sym e)) ];
    entered = λ x h. elim (same_or_not x y) [
      | inl e ↦ inr (subst (λ (k : ℕ). Contains (path ++ y ∷ []) k) (sym e) (Contains-push path y))
      | inr ne ↦ elim (v.entered x (omega (arith, h, start_else x ne))) [ inl r ↦ inl r | inr c ↦ inr (Contains-append_left path (y ∷ []) x c) ]
    ];
    stacked = enter_stacked;
    leads_left = λ k m le l h. v.leads_left k m le l (omega (arith, h, start_left_kept m l));
    starts_left = λ k m le l h. omega (arith, start_left_kept m l, start_left_kept k (omega (arith, le, l)), v.starts_left k m le l (omega (arith, h, start_left_kept m l)));
    leads_open = λ x k c l h. elim (Contains-push_cases path y x c) [
      | inl old ↦ v.leads_open x k old l (omega (arith, h, start_open_kept x old))
      | inr e ↦ absurd (omega (arith, h, l, start_at x (sym e)))
    ];
    starts_open = λ x k c l h. elim (Contains-push_cases path y x c) [
      | inl old ↦ omega (arith, start_open_kept x old, start_left_kept k l, v.starts_open x k old l (omega (arith, h, start_open_kept x old)))
      | inr e ↦ absurd (omega (arith, h, l, start_at x (sym e)))
    ];
    edges_left = λ k z l e. let old = v.edges_left k z l e in (omega (arith, start_kept z old.0, old.0), omega (arith, start_kept z old.0, old.1));
  }

  pub entered_kept : (x : ℕ) → 0 < get_or starts x 0 → 0 < get_or starts' x 0
  entered_kept x h = omega (arith, start_kept x h, h)

-- the pairs without the last element, and the pairs with it
module _ (R : ℕ → ℕ → Type 0) (xs : List ℕ) (y : ℕ) (pairs : AllPairs R (xs ++ y ∷ [])) where
  pairs_front : AllPairs R xs
  pairs_front i j d lt l =
      let old = pairs i j d lt (omega (arith, l, length-append xs (y ∷ []))) in
      let at_i = get_or_append_left xs (y ∷ []) d i (omega (arith, lt, l)) in
      let at_j = get_or_append_left xs (y ∷ []) d j l in
      subst (λ (a : ℕ). R a (get_or xs j d)) at_i (subst (λ (b : ℕ). R (get_or (xs ++ y ∷ []) i d) b) at_j old)

  pub pairs_last : (x : ℕ) → Contains xs x → R x y
  pairs_last x c =
      let old = pairs c.0 (length xs) x c.1 (omega (arith, length-append xs (y ∷ []))) in
      let at_i = get_or_append_left xs (y ∷ []) x c.0 c.1 ∙ c.2 in
      let at_j = get_or-append_seam xs y [] x in
      subst (λ (a : ℕ). R a y) at_i (subst (λ (b : ℕ). R (get_or (xs ++ y ∷ []) c.0 x) b) at_j old)

module _ (g : List (List ℕ)) (starts ranks order path : List ℕ) (x : ℕ) (v : IsEntering g starts ranks order (path ++ x ∷ [])) (all : (y : ℕ) → Edge g x y → 0 < get_or starts y 0) where
  abbrev Stacked : ℕ → ℕ → Type 0
  Stacked a b = (a ≢ b) × (get_or starts a 0 ≤ get_or starts b 0) × Leads (Edge g) a b

  abbrev ranks' : List ℕ
  ranks' = set ranks x (length order + 1)

  abbrev order' : List ℕ
  order' = order ++ x ∷ []

  here : Contains (path ++ x ∷ []) x
  here = Contains-push path x

  older : (y : ℕ) → Contains path y → Contains (path ++ x ∷ []) y
  older y c = Contains-append_left path (x ∷ []) y c

  rank_at : (z : ℕ) → z ≡ x → get_or ranks' z 0 ≡ length order + 1
  rank_at z e = ap (λ (k : ℕ). get_or ranks' k 0) e ∙ (let l : x < length ranks = omega (arith, v.node_open x here, v.ranks_len) in rw get_or-set_same refl)

  rank_else : (z : ℕ) → z ≢ x → get_or ranks' z 0 ≡ get_or ranks z 0
  rank_else z ne = rw get_or-set_other refl

  -- what has a rank keeps it
  rank_kept : (z : ℕ) → 0 < get_or ranks z 0 → get_or ranks' z 0 ≡ get_or ranks z 0
  rank_kept z h = rank_else z (λ e. absurd (omega (arith, h, v.rank_open x here, ap (λ (k : ℕ). get_or ranks k 0) e)))

  order_old : (k : ℕ) → k < length order → get_or order' k 0 ≡ get_or order k 0
  order_old k l = get_or_append_left order (x ∷ []) 0 k l

  order_new : (k : ℕ) → k ≡ length order → get_or order' k 0 ≡ x
  order_new k e = ap (λ (j : ℕ). get_or order' j 0) e ∙ get_or-append_seam order x [] 0

  order_len : length order' ≡ length order + 1
  order_len = length-append order (x ∷ [])

  -- a place of the longer order is one of the shorter or the last
  place_cases : (k : ℕ) → k < length order' → (k < length order) ⊎ (k ≡ length order)
  place_cases k l = elim (cases_lt k (length order)) [ inl lt ↦ inl lt | inr ge ↦ inr (omega (arith, ge, l, order_len)) ]

  -- what holds of the elements of before and of the last holds at each place
  at_place : (P : ℕ → ℕ → Type 0) → ((k : ℕ) → k < length order → P k (get_or order k 0)) → P (length order) x → (k : ℕ) → k < length order' → P k (get_or order' k 0)
  at_place P old last k l = elim (place_cases k l) [
    | inl lt ↦ subst (λ (z : ℕ). P k z) (sym (order_old k lt)) (old k lt)
    | inr e ↦ subst (λ (z : ℕ). P k z) (sym (order_new k e)) (subst (λ (j : ℕ). P j x) (sym e) last)
  ]

  -- and so of two places, the first no later
  at_places : (P : ℕ → ℕ → ℕ → Type 0) → ((k m : ℕ) → k ≤ m → m < length order → P k (get_or order m 0) (get_or order k 0)) → ((k : ℕ) → k < length order → P k x (get_or order k 0)) → P (length order) x x → (k m : ℕ) → k ≤ m → m < length order' → P k (get_or order' m 0) (get_or order' k 0)
  at_places P old mixed last k m le l = elim (place_cases m l) [
    | inl lt ↦ subst (λ (z : ℕ). P k z (get_or order' k 0)) (sym (order_old m lt)) (subst (λ (z : ℕ). P k (get_or order m 0) z) (sym (order_old k (omega (arith, le, lt)))) (old k m le lt))
    | inr e ↦ subst (λ (z : ℕ). P k z (get_or order' k 0)) (sym (order_new m e)) (at_place (λ j z. P j x z) mixed last k (omega (arith, le, l)))
  ]

  apart : (y : ℕ) → Contains path y → y ≢ x
  apart y c = (pairs_last Stacked path x v.stacked y c).0

  pub node_left_now : IsEntering g starts ranks' order' path
  node_left_now = record {
    starts_len = v.starts_len;
    ranks_len = length-set ranks x (length order + 1) ∙ v.ranks_len;
    sized = omega (arith, v.sized, length-append path (x ∷ []), order_len);
    starts_low = λ z. omega (arith, v.starts_low z, order_len);
    node_left = at_place (λ k z. z < length g) v.node_left (v.node_open x here);
    rank_left = at_place (λ k z. get_or ranks' z 0 ≡ k + 1) (λ k l. rank_kept (get_or order k 0) (omega (arith, v.rank_left k l)) ∙ v.rank_left k l) (rank_at x refl);
    start_left = at_place (λ k z. 0 < get_or starts z 0) v.start_left (v.start_open x here);
    early = at_place (λ k z. get_or starts z 0 ≤ k + 1) v.early (v.starts_low x);
    ranked = λ z k e. elim (same_or_not z x) [
      | inl is ↦ (let last : k ≡ length order = omega (arith, e, rank_at z is) in (omega (arith, last, order_len), order_new k last ∙ sym is))
      | inr ne ↦ (let old = v.ranked z k (sym (rank_else z ne) ∙ e) in (omega (arith, old.0, order_len), order_old k old.0 ∙ old.1))
    ];
    node_open = λ z c. v.node_open z (older z c);
    rank_open = λ z c. rank_else z (apart z c) ∙ v.rank_open z (older z c);
    start_open = λ z c. v.start_open z (older z c);
    entered = λ z h. elim (same_or_not z x) [
      | inl is ↦ inl (omega (arith, rank_at z is))
      | inr ne ↦ elim (v.entered z h) [
        | inl r ↦ inl (omega (arith, r, rank_else z ne))
        | inr c ↦ elim (Contains-push_cases path x z c) [ inl old ↦ inr old | inr e ↦ absurd (ne (sym e)) ]
      ]
    ];
    stacked = pairs_front Stacked path x v.stacked;
    leads_left = at_places (λ k a b. get_or starts a 0 ≤ k + 1 → Leads (Edge g) a b) v.leads_left (λ k l h. v.leads_open x k here l h) (λ h. leads_self (Edge g) x);
    starts_left = at_places (λ k a b. get_or starts a 0 ≤ k + 1 → get_or starts a 0 ≤ get_or starts b 0) v.starts_left (λ k l h. v.starts_open x k here l h) (λ h. omega arith);
    leads_open = λ z k c. at_place (λ j a. get_or starts z 0 ≤ j + 1 → Leads (Edge g) z a) (λ j l h. v.leads_open z j (older z c) l h) (λ h. (pairs_last Stacked path x v.stacked z c).2) k;
    starts_open = λ z k c. at_place (λ j a. get_or starts z 0 ≤ j + 1 → get_or starts z 0 ≤ get_or starts a 0) (λ j l h. v.starts_open z j (older z c) l h) (λ h. (pairs_last Stacked path x v.stacked z c).1) k;
    edges_left = λ k z. at_place (λ j a. Edge g a z → (0 < get_or starts z 0) × (get_or starts z 0 ≤ j + 1)) (λ j l e. v.edges_left j z l e) (λ e. (all z e, v.starts_low z)) k;
  }
