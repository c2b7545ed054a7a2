-- What a store does to the union.
use Rattle.std.proofs.Common.{◌≡◌, ℕ, zero, suc, ◌+◌, ◌<◌, ◌⊎◌, inl, inr, Bool, true, false, cond, eqb, List, length, set, Option, Some, None, refl, sym, ap, ◌∙◌, arith, get_or-set_same, get_or-set_other, length-set}
use Rattle.std.specs.Prelude.{Contains, count_by, slice_set}
use Rattle.std.proofs.lemmas.List.{get_or_past}
use Rattle.std.proofs.lemmas.Bool.{cases_lt, cases_eq}
use Rattle.std.proofs.lemmas.List.Sums.{sum_by-set, sum_by-cons}
use Rattle.fib_reach.specs.Walks.{Reaches, Leads, IsAcyclic, Plus}
use Rattle.fib_reach.proofs.Walking.{acyclic-plus, acyclic_part, leads_iff}
use Rattle.fib_union.specs.Marks.{Mark, fresh}
use Rattle.fib_union.specs.Unions.{Retired, Union, owner, edge_at, Goes, Edge, HasEdge, leads_to, one, into, must_retire, retire_if, stored, left_if, left_at_once}

pub some_none : {A : Type 0} (y : A) → None ≡ Some y → ⊥
some_none y e = cc

-- a copy of the list after a store is one from before, or that of the replaced edge
was_retired : (b : Bool) (k : ℕ) (marks : List Mark) (e : Option ℕ) (rs : List Retired) (r : Retired) → Contains (retire_if b k marks e rs) r → Contains rs r ⊎ ((b ≡ true) × (r.cell ≡ k) × (e ≡ Some r.to))
was_retired true k marks (Some y) rs r (zero, lt, e) = inr (refl, ap (λ (s : Retired). s.cell) (sym e), ap (λ (s : Retired). Some s.to) e)
was_retired true k marks (Some y) rs r (suc i, lt, e) = inl (i, omega arith, e)
was_retired true k marks None rs r c = inl c
was_retired false k marks e rs r c = inl c

module _ (u : Union) (k : ℕ) (e : Option ℕ) where
  pub edge_stored_at : (j y : ℕ) → edge_at (slice_set u.edges k e) j ≡ Some y → (edge_at u.edges j ≡ Some y) ⊎ ((j ≡ k) × (e ≡ Some y))
  edge_stored_at j y h = elim (cases_eq j k) [
    | inl is ↦ elim (cases_lt k (length u.edges)) [
      | inl lt ↦ inr (is, (sym (get_or-set_same u.edges k e None lt) ∙ (ap (λ (i : ℕ). edge_at (slice_set u.edges k e) i) (sym is) ∙ h)))
      | inr le ↦ absurd (some_none y (sym (get_or_past (slice_set u.edges k e) j None (let n : length (slice_set u.edges k e) ≡ length u.edges = length-set u.edges k e in omega arith)) ∙ h))
    ]
    | inr ne ↦ inl (sym (get_or-set_other u.edges k j e None ne) ∙ h)
  ]

  pub goes_stored : (workers j y : ℕ) → Goes (stored workers u k e) j y → Goes u j y ⊎ ((j ≡ k) × (e ≡ Some y))
  goes_stored workers j y (inl h) = elim (edge_stored_at j y h) [ inl old ↦ inl (inl old) | inr new ↦ inr new ]
  goes_stored workers j y (inr q) = elim (was_retired (must_retire u k) k (fresh workers) (edge_at u.edges k) u.retired q.0 q.1) [
    | inl old ↦ inl (inr (q.0, old, q.2, q.3))
    | inr new ↦ inl (inl (ap (λ (i : ℕ). edge_at u.edges i) (sym q.2 ∙ new.1) ∙ new.2 ∙ ap (λ (i : ℕ). Some i) q.3))
  ]

  pub edge_stored : (workers x y : ℕ) → Edge (stored workers u k e) x y → Edge u x y ⊎ ((x ≡ owner k) × (e ≡ Some y))
  edge_stored workers x y g = elim (goes_stored workers g.0 y g.2) [
    | inl old ↦ inl (g.0, g.1, old)
    | inr new ↦ inr (sym g.1 ∙ ap owner new.0, new.1)
  ]

  -- a store keeps U acyclic where the new edge closes no cycle in it
  pub acyclic-stored : (workers : ℕ) → IsAcyclic (Edge u) → ((y : ℕ) → e ≡ Some y → Leads (Edge u) y (owner k) → ⊥) → IsAcyclic (Edge (stored workers u k e))
  acyclic-stored workers calm far = by_edge e refl
    where
      by_edge : (f : Option ℕ) → e ≡ f → IsAcyclic (Edge (stored workers u k e))
      by_edge None is = acyclic_part (Edge (stored workers u k e)) (Edge u) (λ x y g. elim (edge_stored workers x y g) [ inl old ↦ old | inr new ↦ absurd (some_none y (sym is ∙ new.1)) ]) calm
      by_edge (Some t) is = acyclic_part (Edge (stored workers u k e)) (Plus (Edge u) (owner k) t)
          (λ x y g. elim (edge_stored workers x y g) [ inl old ↦ inl old | inr new ↦ inr (new.0, (let same : Some y ≡ Some t = sym new.1 ∙ is in cc)) ])
          (acyclic-plus (Edge u) (owner k) t calm (λ (h : (owner k ≡ t) ⊎ Reaches (Edge u) t (owner k)). far t is ((leads_iff (Edge u) t (owner k)).1 (elim h [ inl s ↦ inl (sym s) | inr r ↦ inr r ]))))

copied : (b : Bool) (k o : ℕ) (marks : List Mark) (e : Option ℕ) (rs : List Retired) → count_by (λ (r : Retired). eqb r.to o) (retire_if b k marks e rs) + one o (left_if b e) ≡ count_by (λ (r : Retired). eqb r.to o) rs + one o e
copied true k o marks (Some y) rs = omega (arith, sum_by-cons (λ (r : Retired). cond (eqb r.to o) 1 0) (record { cell = k; to = y; marks = marks }) rs)
copied true k o marks None rs = refl
copied false k o marks e rs = refl

-- how many edges lead to an object after a store
pub into-stored : (u : Union) (workers k : ℕ) (e : Option ℕ) (o : ℕ) → k < length u.edges → into (stored workers u k e) o + one o (left_at_once u k) ≡ into u o + one o e
unfolding into
into-stored u workers k e o lt =
    let a : count_by (leads_to o) (set u.edges k e) + one o (edge_at u.edges k) ≡ count_by (leads_to o) u.edges + one o e = sum_by-set (λ (f : Option ℕ). cond (leads_to o f) 1 0) u.edges k e None lt in
    let b = copied (must_retire u k) k o (fresh workers) (edge_at u.edges k) u.retired in
    omega (arith, a, b)

-- in a union without a cycle no way leads back from where a current edge leads
pub no_second_way : (u : Union) (x y : ℕ) → IsAcyclic (Edge u) → HasEdge u x y → Leads (Edge u) y x → ⊥
no_second_way u x y calm h l = calm x (l.0, (y, (h.0, h.1, inl h.2), l.1))
