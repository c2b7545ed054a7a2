-- A search of a relation: what it has seen, and of how many of these it has taken the edges.
use Rattle.std.proofs.Common.{arith, ◌≡◌, ◌≢◌, ℕ, zero, suc, ◌+◌, ◌<◌, ◌≤◌, List, [], ◌∷◌, ◌++◌, length, get_or, inl, inr, refl, sym, ◌∙◌, ap, subst}
use Rattle.std.specs.Prelude.{Contains}
use Rattle.std.proofs.lemmas.Bool.{cases_lt}
use Rattle.std.proofs.lemmas.List.{get_or_append_left}
use Rattle.std.proofs.lemmas.List.Elements.{Contains-append_left, Contains-append_cases}
use Rattle.fib_reach.specs.Walks.{Walk, Reaches, Leads}
use Rattle.fib_reach.proofs.Places.{any_default}
use Rattle.fib_reach.proofs.Walking.{leads_then, edge_leads, leads_self, then_edge}

-- a walk leads to each that is seen; the edges of the first ones lead to seen ones, and none to the node that is looked for
pub record Searched {A : Type 0} (E : A → A → Type 0) (from to : A) (seen : List A) (done : ℕ) : Type 0 where
  pub start : Contains seen from
  pub walked : (x : A) → Contains seen x → Leads E from x
  pub closed : (k : ℕ) (d : A) → k < done → (y : A) → E (get_or seen k d) y → Contains seen y
  pub missed : (k : ℕ) (d : A) → k < done → E (get_or seen k d) to → ⊥

contains_one : {A : Type 0} (x y : A) → Contains (x ∷ []) y → x ≡ y
contains_one x y (zero, l, e) = e
contains_one x y (suc k, l, e) = absurd (omega (arith, l))

module _ {A : Type 0} (E : A → A → Type 0) (from to : A) where
  pub searched_start : (seen : List A) → seen ≡ from ∷ [] → Searched E from to seen 0
  searched_start seen e = record {
    start = subst (λ s. Contains s from) (sym e) (0, omega arith, refl);
    walked = λ x c. subst (λ y. Leads E from y) (contains_one from x (subst (λ s. Contains s x) e c)) (leads_self E from);
    closed = λ k d l. absurd (omega (arith, l));
    missed = λ k d l. absurd (omega (arith, l));
  }

  pub searched_found : (seen : List A) (i : ℕ) (x : A) → Searched E from to seen i → Contains seen x → E x to → Reaches E from to
  searched_found seen i x s c e = then_edge E from x to (s.walked x c) e

  module _ (seen new : List A) (i : ℕ) (x : A) (s : Searched E from to seen i) (here : i < length seen) (is : get_or seen i x ≡ x) where
    -- what stood at a place stands there
    same_at : (k : ℕ) (d : A) → k < length seen → get_or (seen ++ new) k d ≡ get_or seen k d
    same_at k d l = get_or_append_left seen new d k l

    x_at : (k : ℕ) (d : A) → k ≡ i → get_or (seen ++ new) k d ≡ x
    x_at k d e = same_at k d (omega (arith, e, here)) ∙ (ap (λ (j : ℕ). get_or seen j d) e ∙ (any_default seen i d x here ∙ is))

    -- one node more has its edges taken
    pub searched_more : i ≤ length seen → ((y : A) → Contains new y → E x y) → ((y : A) → E x y → (y ≢ to) × Contains (seen ++ new) y) → Searched E from to (seen ++ new) (i + 1)
    searched_more le from_x all = record {
      start = Contains-append_left seen new from s.start;
      walked = λ y c. elim (Contains-append_cases seen new y c) [
        | inl old ↦ s.walked y old
        | inr now ↦ leads_then E from x y (s.walked x (i, here, is)) (edge_leads E x y (from_x y now))
      ];
      closed = λ k d l y e. elim (cases_lt k i) [
        | inl lt ↦ Contains-append_left seen new y (s.closed k d lt y (subst (λ v. E v y) (same_at k d (omega (arith, lt, here))) e))
        | inr ge ↦ (all y (subst (λ v. E v y) (x_at k d (omega (arith, ge, l))) e)).1
      ];
      missed = λ k d l e. elim (cases_lt k i) [
        | inl lt ↦ s.missed k d lt (subst (λ v. E v to) (same_at k d (omega (arith, lt, here))) e)
        | inr ge ↦ (all to (subst (λ v. E v to) (x_at k d (omega (arith, ge, l))) e)).0 refl
      ];
    }

  none_from : (seen : List A) (i : ℕ) → length seen ≤ i → Searched E from to seen i → (n : ℕ) (x : A) → Contains seen x → Walk E (suc n) x to → ⊥
  none_from seen i h s zero x c w =
      s.missed c.0 x (omega (arith, c.1, h)) (subst (λ v. E v to) (sym c.2) (subst (λ v. E x v) w.2 w.1))
  none_from seen i h s (suc n) x c w =
      none_from seen i h s n w.0 (s.closed c.0 x (omega (arith, c.1, h)) w.0 (subst (λ v. E v w.0) (sym c.2) w.1)) w.2

  -- where all that is seen is done, there is no walk
  pub searched_none : (seen : List A) (i : ℕ) → length seen ≤ i → Searched E from to seen i → Reaches E from to → ⊥
  searched_none seen i h s r = none_from seen i h s r.0 from s.start r.1
