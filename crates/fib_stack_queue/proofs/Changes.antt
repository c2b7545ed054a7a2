-- A prefix comes into both lists, or leaves both.
use Rattle.std.proofs.Common.{arith, ◌≡◌, ◌≢◌, ℕ, zero, suc, ◌-◌, ◌<◌, ◌≤◌, get_or, length, take, drop, ⊎_elim, inl, inr, Bool, true, false, eq-eqb, ne_eqb, List, [], ◌∷◌, ◌++◌, Option, Some, None, refl, sym, ap, subst, ◌∙◌}
use Rattle.std.specs.Prelude.{◌==◌, ◌⊎◌, if◌then◌else◌}
use Rattle.std.specs.List.{AllByRecursion}
use Rattle.std.proofs.lemmas.Bool.{cases_lt}
use native.Mathlib.Decide.{ℕ_discrete}
use mathlib.Core.Logic.{dite}
use Rattle.fib_addr.specs.Prefixes.{Prefix, IsPrefix, same_prefix}
use Rattle.fib_addr.proofs.PrefixLaws.{same_prefix-Decides}
use Rattle.fib_base_list.proofs.Lists.{either}
use Rattle.fib_base_ordered.specs.Sets.{IsAscending, found, first_of}
use Rattle.fib_base_ordered.specs.inner.Blocks.{IsCut}
use Rattle.fib_base_ordered.proofs.Cuts.{each_map, each_parts, each_join, parts}
use Rattle.fib_base_ordered.proofs.Sets.{in_ascending, out_ascending}
use Rattle.fib_stack_queue.specs.Queues.{prefix_key, turn_key, key_in, rank_in}
use Rattle.fib_stack_queue.specs.declared.order.Queued.{Queued}
use Rattle.fib_stack_queue.specs.inner.Steps.{IsIn, AreInStep}
use Rattle.fib_stack_queue.proofs.Keys.{same_turn, test_key, not_true, cut_at}
use Rattle.fib_stack_queue.proofs.Looks.{rank_of, found_key, each_in, looks, long_not}

pub in_left : (xs ys : List Queued) (q : Queued) → IsIn xs q → IsIn (xs ++ ys) q
in_left [] ys q i = absurd i
in_left (x ∷ xs) ys q (inl e) = inl e
in_left (x ∷ xs) ys q (inr i) = inr (in_left xs ys q i)

pub in_right : (xs ys : List Queued) (q : Queued) → IsIn ys q → IsIn (xs ++ ys) q
in_right [] ys q i = i
in_right (x ∷ xs) ys q i = inr (in_right xs ys q i)

pub in_parts : (xs ys : List Queued) (q : Queued) → IsIn (xs ++ ys) q → IsIn xs q ⊎ IsIn ys q
in_parts [] ys q i = inr i
in_parts (x ∷ xs) ys q (inl e) = inl (inl e)
in_parts (x ∷ xs) ys q (inr i) = ⊎_elim (λ j. inl (inr j)) (λ j. inr j) (in_parts xs ys q i)

same_some : {X : Type 0} (x y : X) → Some x ≡ Some y → x ≡ y
same_some x y e = cc

-- one that isn't kept has another turn than all
no_turn : (kept : List Queued) (q : Queued) → IsPrefix q.prefix → found key_in kept (key_in q) ≡ None → (order : List Queued) → AllByRecursion (λ x. IsPrefix x.prefix) order → AllByRecursion (λ x. found key_in kept (key_in x) ≡ Some x) order → found turn_key order (turn_key q) ≡ None
no_turn kept q p none [] ps real = refl
no_turn kept q p none (x ∷ xs) ps real = dite (ℕ_discrete (turn_key x) (turn_key q))
    (λ same. let k : key_in x ≡ key_in q = same_turn x q ps.0 p same in let f : Some x ≡ None = sym real.0 ∙ ap (found key_in kept) k ∙ none in absurd (cc))
    (λ ne. rw (ne_eqb (turn_key x) (turn_key q) ne) (no_turn kept q p none xs ps.1 real.1))

module _ (order kept : List Queued) (step : AreInStep order kept) (q : Queued) (low high : List Queued) (cut : IsCut turn_key (turn_key q) order low high) where
  cut_prefixes : AllByRecursion (λ x. IsPrefix x.prefix) low × AllByRecursion (λ x. IsPrefix x.prefix) high
  cut_prefixes = each_parts (λ x. IsPrefix x.prefix) low high (subst (AllByRecursion (λ (x : Queued). IsPrefix x.prefix)) cut.whole step.prefixes)

  -- it comes
  module _ (p : IsPrefix q.prefix) (none : found key_in kept (key_in q) ≡ None) (new : List Queued) (finds : (k : ℕ) → found key_in new k ≡ (if key_in q == k then Some q else found key_in kept k)) where
    still_real : (xs : List Queued) → AllByRecursion (λ x. found key_in kept (key_in x) ≡ Some x) xs → AllByRecursion (λ x. found key_in new (key_in x) ≡ Some x) xs
    still_real xs h = each_map (λ x. found key_in kept (key_in x) ≡ Some x) (λ x. found key_in new (key_in x) ≡ Some x)
        (λ x is. let ne : key_in q ≢ key_in x = (λ e. let f : None ≡ Some x = sym none ∙ ap (found key_in kept) e ∙ is in absurd (cc)) in finds (key_in x) ∙ (rw (ne_eqb (key_in q) (key_in x) ne) is)) xs h

    pub step_in : AreInStep (low ++ q ∷ high) new
    step_in =
        let real = each_parts (λ x. found key_in kept (key_in x) ≡ Some x) low high (subst (AllByRecursion (λ (x : Queued). found key_in kept (key_in x) ≡ Some x)) cut.whole step.real) in
        record {
          ordered = in_ascending turn_key (turn_key q) order low high cut step.ordered (no_turn kept q p none order step.prefixes step.real) q refl;
          prefixes = each_join (λ x. IsPrefix x.prefix) low (q ∷ high) cut_prefixes.0 (p, cut_prefixes.1);
          real = each_join (λ x. found key_in new (key_in x) ≡ Some x) low (q ∷ high) (still_real low real.0) (finds (key_in q) ∙ (rw (eq-eqb (key_in q) (key_in q) refl) refl), still_real high real.1);
          there = there;
        }
      where
        there : (k : ℕ) (x : Queued) → found key_in new k ≡ Some x → IsIn (low ++ q ∷ high) x
        there k x is = dite (ℕ_discrete (key_in q) k)
            (λ same. let f : Some q ≡ Some x = (rw (eq-eqb (key_in q) k same) at (sym (finds k) ∙ is)) in in_right low (q ∷ high) x (inl (same_some q x f)))
            (λ ne. let f : found key_in kept k ≡ Some x = (rw (ne_eqb (key_in q) k ne) at (sym (finds k) ∙ is)) in
            ⊎_elim (λ j. in_left low (q ∷ high) x j) (λ j. in_right low (q ∷ high) x (inr j)) (in_parts low high x (subst (λ (l : List Queued). IsIn l x) cut.whole (step.there k x f))))

  -- it leaves
  module _ (here : found key_in kept (key_in q) ≡ Some q) where
    first_in : (ys : List Queued) → IsAscending turn_key ys → AllByRecursion (λ y. turn_key q ≤ turn_key y) ys → IsIn ys q → first_of ys ≡ Some q
    first_in [] asc le i = absurd i
    first_in (y ∷ ys) asc le (inl e) = ap Some e
    first_in (y ∷ ys) asc le (inr i) = let lt : turn_key y < turn_key q = each_in (λ z. turn_key y < turn_key z) ys q asc.0 i in let l = le.0 in absurd (omega (arith, lt, l))

    pub first_high : first_of high ≡ Some q
    first_high = ⊎_elim
        (λ (i : IsIn low q). let lt : turn_key q < turn_key q = each_in (λ x. turn_key x < turn_key q) low q cut.lower i in absurd (omega (arith, lt)))
        (λ (i : IsIn high q). first_in high (parts turn_key low high (subst (IsAscending turn_key) cut.whole step.ordered)).1 cut.upper i)
        (in_parts low high q (subst (λ (l : List Queued). IsIn l q) cut.whole (step.there (key_in q) q here)))

    open_list : (ys : List Queued) → first_of ys ≡ Some q → ys ≡ q ∷ drop 1 ys
    open_list [] e = absurd (cc)
    open_list (y ∷ ys) e = ap (λ z. z ∷ ys) (same_some y q e)

    whole : order ≡ low ++ q ∷ drop 1 high
    whole = cut.whole ∙ ap (λ l. low ++ l) (open_list high first_high)

    module _ (new : List Queued) (finds : (k : ℕ) → found key_in new k ≡ (if key_in q == k then None else found key_in kept k)) where
      less_real : (xs : List Queued) → AllByRecursion (λ x. turn_key x ≢ turn_key q) xs → AllByRecursion (λ x. found key_in kept (key_in x) ≡ Some x) xs → AllByRecursion (λ x. found key_in new (key_in x) ≡ Some x) xs
      less_real [] ne h = tt
      less_real (x ∷ xs) ne h =
          let other : key_in q ≢ key_in x = (λ e. let f : Some x ≡ Some q = sym h.0 ∙ ap (found key_in kept) (sym e) ∙ here in ne.0 (ap turn_key (same_some x q f))) in
          (finds (key_in x) ∙ (rw (ne_eqb (key_in q) (key_in x) other) h.0), less_real xs ne.1 h.1)

      pub step_out : AreInStep (low ++ drop 1 high) new
      step_out =
          let real = each_parts (λ x. found key_in kept (key_in x) ≡ Some x) low (q ∷ drop 1 high) (subst (AllByRecursion (λ (x : Queued). found key_in kept (key_in x) ≡ Some x)) whole step.real) in
          let ps = each_parts (λ x. IsPrefix x.prefix) low (q ∷ drop 1 high) (subst (AllByRecursion (λ (x : Queued). IsPrefix x.prefix)) whole step.prefixes) in
          let asc = parts turn_key low (q ∷ drop 1 high) (subst (IsAscending turn_key) whole step.ordered) in
          record {
            ordered = out_ascending turn_key (turn_key q) order low high cut step.ordered q first_high refl;
            prefixes = each_join (λ x. IsPrefix x.prefix) low (drop 1 high) ps.0 ps.1.1;
            real = each_join (λ x. found key_in new (key_in x) ≡ Some x) low (drop 1 high)
                (less_real low (each_map (λ x. turn_key x < turn_key q) (λ x. turn_key x ≢ turn_key q) (λ x lt e. absurd (omega (arith, lt, e))) low cut.lower) real.0)
                (less_real (drop 1 high) (each_map (λ x. turn_key q < turn_key x) (λ x. turn_key x ≢ turn_key q) (λ x lt e. absurd (omega (arith, lt, e))) (drop 1 high) asc.1.0) real.1.1);
            there = there;
          }
        where
          there : (k : ℕ) (x : Queued) → found key_in new k ≡ Some x → IsIn (low ++ drop 1 high) x
          there k x is = dite (ℕ_discrete (key_in q) k)
              (λ same. let f : None ≡ Some x = (rw (eq-eqb (key_in q) k same) at (sym (finds k) ∙ is)) in absurd (cc))
              (λ ne. let f : found key_in kept k ≡ Some x = (rw (ne_eqb (key_in q) k ne) at (sym (finds k) ∙ is)) in
              ⊎_elim (λ j. in_left low (drop 1 high) x j) (λ j. by_place f ne j) (in_parts low (q ∷ drop 1 high) x (subst (λ (l : List Queued). IsIn l x) whole (step.there k x f))))
            where
              by_place : found key_in kept k ≡ Some x → key_in q ≢ k → IsIn (q ∷ drop 1 high) x → IsIn (low ++ drop 1 high) x
              by_place f ne (inl e) = absurd (ne (ap key_in e ∙ found_key kept k x f))
              by_place f ne (inr j) = in_right low (drop 1 high) x j

-- how look-ups change
if_rank : (b : Bool) (x y : Option Queued) → rank_of (if b then x else y) ≡ (if b then rank_of x else rank_of y)
if_rank true x y = refl
if_rank false x y = refl

module _ (order kept order' kept' : List Queued) (step : AreInStep order kept) (step' : AreInStep order' kept') (e : Prefix) (lt : e.len < 64) (o : Option Queued) (finds : (k : ℕ) → found key_in kept' k ≡ (if prefix_key e == k then o else found key_in kept k)) where
  pub ranks_after : (d : Prefix) → rank_in order' d ≡ (if same_prefix e d then rank_of o else rank_in order d)
  ranks_after d = ⊎_elim
      (λ (s : d.len < 64). looks order' kept' step' d s ∙ ap rank_of (finds (prefix_key d)) ∙ if_rank (prefix_key e == prefix_key d) o (found key_in kept (prefix_key d))
      ∙ ap (λ b. if b then rank_of o else rank_of (found key_in kept (prefix_key d))) (test_key e d lt s)
      ∙ ap (λ r. if same_prefix e d then rank_of o else r) (sym (looks order kept step d s)))
      (λ (l : 64 ≤ d.len). long_not order' step'.prefixes d l ∙ sym (let f : same_prefix e d ≡ false = far l in rw f (long_not order step.prefixes d l)))
      (cases_lt d.len 64)
    where
      far : 64 ≤ d.len → same_prefix e d ≡ false
      far l = not_true (same_prefix e d) (λ is. let f : e.len ≡ d.len = ap (λ (p : Prefix). p.len) ((same_prefix-Decides e d).0 is) in absurd (omega (arith, f, l, lt)))

-- one that isn't queued leaves nothing behind
pub absent_rank : (order kept : List Queued) → AreInStep order kept → (e : Prefix) → e.len < 64 → found key_in kept (prefix_key e) ≡ None → (d : Prefix) → rank_in order d ≡ (if same_prefix e d then None else rank_in order d)
absent_rank order kept step e lt none d = ⊎_elim
    (λ (is : same_prefix e d ≡ true). rw is (subst (λ (p : Prefix). rank_in order p ≡ None) ((same_prefix-Decides e d).0 is) (looks order kept step e lt ∙ ap rank_of none)))
    (λ (isnt : same_prefix e d ≡ false). rw isnt refl)
    (either (same_prefix e d))

pub not_kept : (order kept : List Queued) → AreInStep order kept → (e : Prefix) → e.len < 64 → rank_in order e ≡ None → found key_in kept (prefix_key e) ≡ None
not_kept order kept step e lt none = by_found (found key_in kept (prefix_key e)) (sym (looks order kept step e lt) ∙ none)
  where
    by_found : (o : Option Queued) → rank_of o ≡ None → o ≡ None
    by_found None h = refl
    by_found (Some q) h = absurd (cc)

-- a list that is the same
pub cut_of : (key : ℕ) (seen xs : List Queued) (j : ℕ) → seen ≡ xs → IsAscending turn_key xs → j ≤ length seen → ((d : Queued) → 0 < j → turn_key (get_or seen (j - 1) d) < key) → ((d : Queued) → j < length seen → key ≤ turn_key (get_or seen j d)) → IsCut turn_key key xs (take j xs) (drop j xs)
cut_of key seen xs j same asc le low high = cut_at key xs j asc (subst (λ (l : List Queued). j ≤ length l) same le) (subst (λ (l : List Queued). (d : Queued) → 0 < j → turn_key (get_or l (j - 1) d) < key) same low) (subst (λ (l : List Queued). (d : Queued) → j < length l → key ≤ turn_key (get_or l j d)) same high)

pub inside : (xs : List Queued) (j : ℕ) (q : Queued) → first_of (drop j xs) ≡ Some q → j < length xs
inside [] zero q e = absurd (cc)
inside [] (suc j) q e = absurd (cc)
inside (x ∷ xs) zero q e = omega arith
inside (x ∷ xs) (suc j) q e = let h : j < length xs = inside xs j q e in omega (arith, h)

pub drop_next : (xs : List Queued) (j : ℕ) → drop 1 (drop j xs) ≡ drop (suc j) xs
drop_next [] zero = refl
drop_next [] (suc j) = refl
drop_next (x ∷ xs) zero = refl
drop_next (x ∷ xs) (suc j) = drop_next xs j

-- what is found is at the place where the search ends
module _ (xs kept : List Queued) (step : AreInStep xs kept) (k : ℕ) (q : Queued) (is : found key_in kept k ≡ Some q) (seen : List Queued) (j : ℕ) (same : seen ≡ xs) (le : j ≤ length seen)
    (low : (d : Queued) → 0 < j → turn_key (get_or seen (j - 1) d) < turn_key q) (high : (d : Queued) → j < length seen → turn_key q ≤ turn_key (get_or seen j d)) where
  key : key_in q ≡ k
  key = found_key kept k q is

  here : found key_in kept (key_in q) ≡ Some q
  here = ap (found key_in kept) key ∙ is

  cut : IsCut turn_key (turn_key q) xs (take j xs) (drop j xs)
  cut = cut_of (turn_key q) seen xs j same step.ordered le low high

  pub place_in : j < length xs
  place_in = inside xs j q (first_high xs kept step q (take j xs) (drop j xs) cut here)

  pub gone : (new : List Queued) → ((i : ℕ) → found key_in new i ≡ (if k == i then None else found key_in kept i)) → AreInStep (take j xs ++ drop (suc j) xs) new
  gone new finds = subst (λ (l : List Queued). AreInStep (take j xs ++ l) new) (drop_next xs j)
      (step_out xs kept step q (take j xs) (drop j xs) cut here new (λ i. subst (λ (n : ℕ). found key_in new i ≡ (if n == i then None else found key_in kept i)) (sym key) (finds i)))
