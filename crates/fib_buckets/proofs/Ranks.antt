-- In a strict order of a list exactly k elements have fewer than k before them.
use Rattle.std.proofs.Common.{arith, ◌≡◌, ℕ, zero, suc, ◌+◌, ◌-◌, ◌<◌, ◌≤◌, Bool, true, false, not, eqb, ltb, List, [], ◌∷◌, map, length, get_or, ◌⊎◌, inl, inr, refl, sym, ◌∙◌, ap, subst}
use Rattle.std.specs.Prelude.{filter}
use Rattle.std.specs.List.{AllByRecursion, IsDistinct, count_by, range_with_len}
use Rattle.std.specs.Set.{is_member}
use Rattle.std.proofs.lemmas.Cmp.{nat_eq_equiv}
use Rattle.std.proofs.lemmas.Bool.{false≢true, ltb-true, ltb-false, cases_lt}
use Rattle.std.proofs.lemmas.Bool.Decides.{Decides-eqb}
use Rattle.std.proofs.lemmas.List.{get_or-map}
use Rattle.std.proofs.lemmas.List.Elements.{recursion_from_All}
use Rattle.std.proofs.lemmas.List.FromFn.{length-range_with_len}
use Rattle.std.proofs.lemmas.List.Sums.{length-filter}
use Rattle.std.proofs.lemmas.Map.Keys.{IsDistinct-from_apart}
use Rattle.std.proofs.lemmas.Map.Made.{length-le_from_is_member, is_member-filter}
use Rattle.std.proofs.lemmas.Map.Steps.{length-le_from_distinct_below}
use Rattle.fib_base_list.proofs.Lists.{either}
use Rattle.fib_base_list.proofs.Booleans.{or_cases, and_both, or_right, unit_of, count_by-cons}

at_most : (b c : Bool) → (b ≡ true → c ≡ true) → unit_of b ≤ unit_of c
at_most true c h = rw (h refl) (omega arith)
at_most false c h = omega arith

count_more : {X : Type 0} (p q : X → Bool) → ((x : X) → p x ≡ true → q x ≡ true) → (xs : List X) → count_by p xs ≤ count_by q xs
count_more p q h [] = omega arith
count_more p q h (x ∷ xs) = omega (arith, count_by-cons p x xs, count_by-cons q x xs, at_most (p x) (q x) (h x), count_more p q h xs)

-- q passes all that p does and one element more
count_one_more : {X : Type 0} (p q : X → Bool) → ((x : X) → p x ≡ true → q x ≡ true) → (xs : List X) (i : ℕ) (d : X) → i < length xs → p (get_or xs i d) ≡ false → q (get_or xs i d) ≡ true → count_by p xs < count_by q xs
count_one_more p q h [] i d l fails passes = absurd (omega (arith, l))
count_one_more p q h (x ∷ xs) zero d l fails passes = omega (arith, count_by-cons p x xs, count_by-cons q x xs, ap unit_of fails, ap unit_of passes, count_more p q h xs)
count_one_more p q h (x ∷ xs) (suc i) d l fails passes = omega (arith, count_by-cons p x xs, count_by-cons q x xs, at_most (p x) (q x) (h x), count_one_more p q h xs i d (omega (arith, l)) fails passes)

units : (b : Bool) → unit_of b + unit_of (not b) ≡ 1
units true = refl
units false = refl

count_both : {X : Type 0} (p : X → Bool) (xs : List X) → count_by p xs + count_by (λ x. not (p x)) xs ≡ length xs
count_both p [] = refl
count_both p (x ∷ xs) = omega (arith, count_by-cons p x xs, count_by-cons (λ y. not (p y)) x xs, units (p x), count_both p xs)

count_all : {X : Type 0} (xs : List X) → count_by (λ _. true) xs ≡ length xs
count_all [] = refl
count_all (x ∷ xs) = omega (arith, count_by-cons (λ _. true) x xs, count_all xs)

apart_filter : (x : ℕ) (p : ℕ → Bool) (xs : List ℕ) → AllByRecursion (λ y. eqb x y ≡ false) xs → AllByRecursion (λ y. eqb x y ≡ false) (filter p xs)
apart_filter x p [] h = tt
apart_filter x p (y ∷ ys) h = elim (either (p y)) [ inl is ↦ rw is (h.0, apart_filter x p ys h.1) | inr isnt ↦ rw isnt (apart_filter x p ys h.1) ]

distinct_filter : (p : ℕ → Bool) (xs : List ℕ) → IsDistinct eqb xs → IsDistinct eqb (filter p xs)
unfolding IsDistinct
distinct_filter p [] h = tt
distinct_filter p (x ∷ xs) h = elim (either (p x)) [ inl is ↦ rw is (apart_filter x p xs h.0, distinct_filter p xs h.1) | inr isnt ↦ rw isnt (distinct_filter p xs h.1) ]

in_range : (a m q : ℕ) → a ≤ q → q < a + m → is_member eqb (range_with_len a m) q ≡ true
in_range a zero q l h = absurd (omega (arith, l, h))
in_range a (suc m) q l h =
    elim (cases_lt a q) [
      | inl lt ↦ or_right (eqb q a) _ (in_range (a + 1) m q (omega (arith, lt)) (omega (arith, h)))
      | inr le ↦ rw ((Decides-eqb q a).1 (omega (arith, l, le))) refl
    ]

filtered : (p : ℕ → Bool) (q : ℕ) (rs : List ℕ) → is_member eqb (filter p rs) q ≡ true → (is_member eqb rs q ≡ true) × (p q ≡ true)
filtered p q rs h = and_both _ _ (sym (is_member-filter nat_eq_equiv p q (λ x e. ap p ((Decides-eqb q x).0 e)) rs) ∙ h)

-- of n different numbers below n exactly k are below k
pub count_below : (rs : List ℕ) → IsDistinct eqb rs → ((q : ℕ) → is_member eqb rs q ≡ true → q < length rs) → (k : ℕ) → k ≤ length rs → count_by (λ r. ltb r k) rs ≡ k
count_below rs apart small k h =
    let low = length-le_from_distinct_below (filter (λ r. ltb r k) rs) k (distinct_filter (λ r. ltb r k) rs apart) (λ q m. ltb-true q k (filtered (λ r. ltb r k) q rs m).1) in
    let high = length-le_from_is_member nat_eq_equiv (filter (λ r. not (ltb r k)) rs) (range_with_len k (length rs - k)) (distinct_filter (λ r. not (ltb r k)) rs apart) (λ q m.
    let f = filtered (λ r. not (ltb r k)) q rs m in
    in_range k (length rs - k) q (ltb-false q k (not_true _ f.1)) (omega (arith, small q f.0, h))) in
    omega (arith, low, high, h, length-filter (λ r. ltb r k) rs, length-filter (λ r. not (ltb r k)) rs, length-range_with_len k (length rs - k), count_both (λ r. ltb r k) rs)
  where
    not_true : (b : Bool) → not b ≡ true → b ≡ false
    not_true true e = absurd (false≢true e)
    not_true false e = refl

count-map : {X : Type 0} (f : X → ℕ) (p : ℕ → Bool) (xs : List X) → count_by p (map f xs) ≡ count_by (λ x. p (f x)) xs
count-map f p [] = refl
count-map f p (x ∷ xs) = omega (arith, count_by-cons p (f x) (map f xs), count_by-cons (λ y. p (f y)) x xs, count-map f p xs)

length-map_here : {X : Type 0} (f : X → ℕ) (xs : List X) → length (map f xs) ≡ length xs
length-map_here f [] = refl
length-map_here f (x ∷ xs) = ap suc (length-map_here f xs)

each_member : (P : ℕ → Type 0) (rs : List ℕ) (q : ℕ) → AllByRecursion P rs → is_member eqb rs q ≡ true → P q
each_member P [] q h m = absurd (false≢true m)
each_member P (r ∷ rs) q h m =
    elim (or_cases (eqb q r) _ m) [ inl is ↦ subst P (sym ((Decides-eqb q r).0 is)) h.0 | inr isin ↦ each_member P rs q h.1 isin ]

each_map : {X : Type 0} (P : ℕ → Type 0) (f : X → ℕ) (xs : List X) → AllByRecursion (λ x. P (f x)) xs → AllByRecursion P (map f xs)
each_map P f [] h = tt
each_map P f (x ∷ xs) h = (h.0, each_map P f xs h.1)

module _ {X : Type 0} (lt : X → X → Bool) (irr : (x : X) → lt x x ≡ false) (trans : (x y z : X) → lt x y ≡ true → lt y z ≡ true → lt x z ≡ true) (es : List X) (total : (i j : ℕ) (d : X) → i < j → j < length es → (lt (get_or es i d) (get_or es j d) ≡ true) ⊎ (lt (get_or es j d) (get_or es i d) ≡ true)) where
  abbrev pub rank : X → ℕ
  rank x = count_by (λ y. lt y x) es

  rank_less : (i : ℕ) (d : X) (y : X) → i < length es → lt (get_or es i d) y ≡ true → rank (get_or es i d) < rank y
  rank_less i d y l h = count_one_more (λ z. lt z (get_or es i d)) (λ z. lt z y) (λ z k. trans z (get_or es i d) y k h) es i d l (irr (get_or es i d)) h

  apart_at : (i j : ℕ) (d : X) → i < j → j < length es → eqb (rank (get_or es i d)) (rank (get_or es j d)) ≡ false
  apart_at i j d l m =
      elim (either (eqb (rank (get_or es i d)) (rank (get_or es j d)))) [
        | inl same ↦ (let e = (Decides-eqb (rank (get_or es i d)) (rank (get_or es j d))).0 same in
            elim (total i j d l m) [
              | inl h ↦ absurd (omega (arith, e, rank_less i d (get_or es j d) (omega (arith, l, m)) h))
              | inr h ↦ absurd (omega (arith, e, rank_less j d (get_or es i d) m h))
            ])
        | inr differ ↦ differ
      ]

  ranks_small : (i : ℕ) (d : X) → i < length es → rank (get_or es i d) < length es
  ranks_small i d l = omega (arith, count_one_more (λ z. lt z (get_or es i d)) (λ _. true) (λ z k. refl) es i d l (irr (get_or es i d)) refl, count_all es)

  pub count_ranks : (e : X) (k : ℕ) → k ≤ length es → count_by (λ x. ltb (rank x) k) es ≡ k
  count_ranks e k h =
      let rs = map rank es in
      let n : length rs ≡ length es = length-map_here rank es in
      let apart : IsDistinct eqb rs = IsDistinct-from_apart eqb rs (λ i j d l m.
      rw (get_or-map rank es i e d (omega (arith, l, m, n)), get_or-map rank es j e d (omega (arith, m, n))) (apart_at i j e l (omega (arith, m, n)))) in
      let small : (q : ℕ) → is_member eqb rs q ≡ true → q < length rs = λ q m. omega (arith, n, each_member (λ r. r < length es) rs q (each_map (λ r. r < length es) rank es (recursion_from_All (λ x. rank x < length es) es ranks_small)) m) in
      sym (count-map rank (λ r. ltb r k) es) ∙ count_below rs apart small k (omega (arith, h, n))
