-- Walks compose and cut; what holds in graphs without a cycle.
use Rattle.std.proofs.Common.{arith, ◌≡◌, ◌≢◌, ℕ, zero, suc, ◌+◌, ◌<◌, ◌≤◌, ◌⊎◌, ◌↔◌, inl, inr, List, [], ◌∷◌, length, refl, sym, subst}
use Rattle.std.specs.Prelude.{Contains}
use Rattle.std.specs.List.{AllByRecursion}
use Rattle.fib_reach.proofs.Places.{length-le_from_differ}
use Rattle.fib_reach.specs.Walks.{Walk, Reaches, Leads, IsAcyclic, HasCycle, Plus, IsPart, visited, AllDiffer}

module _ {A : Type 0} (E : A → A → Type 0) where
  -- walks compose
  pub walk_then : (m n : ℕ) (x y z : A) → Walk E m x y → Walk E n y z → Walk E (m + n) x z
  walk_then zero n x y z v w =
      let e : n ≡ 0 + n = omega arith in
      subst (λ (k : ℕ). Walk E k x z) e (subst (λ a. Walk E n a z) (sym v) w)
  walk_then (suc m) n x y z v w =
      let t : Walk E (suc (m + n)) x z = (v.0, v.1, walk_then m n v.0 y z v.2 w) in
      let e : suc (m + n) ≡ suc m + n = omega arith in
      subst (λ (k : ℕ). Walk E k x z) e t

  -- and cut
  pub walk_cut : (m n : ℕ) (x z : A) → Walk E (m + n) x z → (y : A) × Walk E m x y × Walk E n y z
  walk_cut zero n x z w = let e : 0 + n ≡ n = omega arith in (x, refl, subst (λ (k : ℕ). Walk E k x z) e w)
  walk_cut (suc m) n x z w =
      let e : suc m + n ≡ suc (m + n) = omega arith in
      let v : Walk E (suc (m + n)) x z = subst (λ (k : ℕ). Walk E k x z) e w in
      let r = walk_cut m n v.0 z v.2 in
      (r.0, (v.0, v.1, r.1), r.2)

  pub leads_then : (x y z : A) → Leads E x y → Leads E y z → Leads E x z
  leads_then x y z v w = (v.0 + w.0, walk_then v.0 w.0 x y z v.1 w.1)

  pub reaches_leads : (x y : A) → Reaches E x y → Leads E x y
  reaches_leads x y r = (suc r.0, r.1)

  pub leads_self : (x : A) → Leads E x x
  leads_self x = (0, refl)

  pub edge_leads : (x y : A) → E x y → Leads E x y
  edge_leads x y e = (1, (y, e, refl))

  pub edge_reaches : (x y : A) → E x y → Reaches E x y
  edge_reaches x y e = (0, (y, e, refl))

  -- a walk of any number of edges has none, or one or more
  pub leads_cases : (x y : A) → Leads E x y → (x ≡ y) ⊎ Reaches E x y
  leads_cases x y (zero, w) = inl w
  leads_cases x y (suc n, w) = inr (n, w)

  pub leads_iff : (x y : A) → Leads E x y ↔ (x ≡ y) ⊎ Reaches E x y
  leads_iff x y = (leads_cases x y, λ h. elim h [ inl e ↦ (0, e) | inr r ↦ reaches_leads x y r ])

  pub edge_then : (x y z : A) → E x y → Leads E y z → Reaches E x z
  edge_then x y z e w = (w.0, (y, e, w.1))

  pub reaches_then : (x y z : A) → Reaches E x y → Leads E y z → Reaches E x z
  reaches_then x y z r w = edge_then x r.1.0 z r.1.1 (leads_then r.1.0 y z (r.0, r.1.2) w)

  pub then_reaches : (x y z : A) → Leads E x y → Reaches E y z → Reaches E x z
  then_reaches x y z v r = elim (leads_cases x y v) [
    | inl e ↦ subst (λ a. Reaches E a z) (sym e) r
    | inr q ↦ reaches_then x y z q (reaches_leads y z r)
  ]

  pub then_edge : (x y z : A) → Leads E x y → E y z → Reaches E x z
  then_edge x y z v e = then_reaches x y z v (edge_reaches y z e)

  -- a walk in the relation with one edge more avoids the new edge or splits at it
  pub walk_plus : (a b : A) (n : ℕ) (x y : A) → Walk (Plus E a b) n x y → Leads E x y ⊎ (Leads E x a × Leads E b y)
  walk_plus a b zero x y w = inl (0, w)
  walk_plus a b (suc n) x y w = joined w.1 (walk_plus a b n w.0 y w.2)
    where
      joined : Plus E a b x w.0 → Leads E w.0 y ⊎ (Leads E w.0 a × Leads E b y) → Leads E x y ⊎ (Leads E x a × Leads E b y)
      joined (inl e) (inl r) = inl (leads_then x w.0 y (edge_leads x w.0 e) r)
      joined (inl e) (inr q) = inr (leads_then x w.0 a (edge_leads x w.0 e) q.0, q.1)
      joined (inr p) (inl r) = inr ((0, p.0), subst (λ c. Leads E c y) p.1 r)
      joined (inr p) (inr q) = inr ((0, p.0), q.1)

  -- one or more edges: the same
  pub reaches_plus : (a b x y : A) → Reaches (Plus E a b) x y → Reaches E x y ⊎ (Leads E x a × Leads E b y)
  reaches_plus a b x y r = joined r.1.1 (walk_plus a b r.0 r.1.0 y r.1.2)
    where
      joined : Plus E a b x r.1.0 → Leads E r.1.0 y ⊎ (Leads E r.1.0 a × Leads E b y) → Reaches E x y ⊎ (Leads E x a × Leads E b y)
      joined (inl e) (inl l) = inl (edge_then x r.1.0 y e l)
      joined (inl e) (inr q) = inr (leads_then x r.1.0 a (edge_leads x r.1.0 e) q.0, q.1)
      joined (inr p) (inl l) = inr ((0, p.0), subst (λ c. Leads E c y) p.1 l)
      joined (inr p) (inr q) = inr ((0, p.0), q.1)

module _ {A : Type 0} (E F : A → A → Type 0) where
  pub walk-map : IsPart E F → (n : ℕ) (x y : A) → Walk E n x y → Walk F n x y
  walk-map f zero x y w = w
  walk-map f (suc n) x y w = (w.0, f x w.0 w.1, walk-map f n w.0 y w.2)

  pub reaches-map : IsPart E F → (x y : A) → Reaches E x y → Reaches F x y
  reaches-map f x y r = (r.0, walk-map f (suc r.0) x y r.1)

  pub leads-map : IsPart E F → (x y : A) → Leads E x y → Leads F x y
  leads-map f x y r = (r.0, walk-map f r.0 x y r.1)

  -- a part of an acyclic graph is acyclic
  pub acyclic_part : IsPart E F → IsAcyclic F → IsAcyclic E
  acyclic_part f calm x r = calm x (reaches-map f x x r)

module _ {A : Type 0} (E : A → A → Type 0) where
  -- the new edge closes a cycle where its target is its source or reaches it
  pub plus_closes : (a b : A) → (a ≡ b) ⊎ Reaches E b a → HasCycle (Plus E a b)
  plus_closes a b (inl e) = (a, (0, (b, inr (refl, refl), sym e)))
  plus_closes a b (inr r) = (a, (suc r.0, (b, inr (refl, refl), walk-map E (Plus E a b) (λ x y e. inl e) (suc r.0) b a r.1)))

  -- and there alone
  pub closes_only : (a b : A) → IsAcyclic E → HasCycle (Plus E a b) → (a ≡ b) ⊎ Reaches E b a
  closes_only a b calm (x, r) = elim (reaches_plus E a b x x r) [
    | inl s ↦ absurd (calm x s)
    | inr q ↦ elim (leads_cases E b a (leads_then E b x a q.1 q.0)) [ inl e ↦ inl (sym e) | inr s ↦ inr s ]
  ]

  pub closes_iff : (a b : A) → IsAcyclic E → HasCycle (Plus E a b) ↔ (a ≡ b) ⊎ Reaches E b a
  closes_iff a b calm = (closes_only a b calm, plus_closes a b)

  pub acyclic-plus : (a b : A) → IsAcyclic E → ((a ≡ b) ⊎ Reaches E b a → ⊥) → IsAcyclic (Plus E a b)
  acyclic-plus a b calm far x r = far (closes_only a b calm (x, r))

  -- from where a walk starts a walk leads to each node that it visits
  leads_to_visited : (n : ℕ) (x y : A) (w : Walk E n x y) → AllByRecursion (λ v. Leads E x v) (visited E n x y w)
  leads_to_visited zero x y w = (leads_self E x, tt)
  leads_to_visited (suc n) x y w =
      (leads_self E x, each_more (visited E n w.0 y w.2) (leads_to_visited n w.0 y w.2))
    where
      each_more : (vs : List A) → AllByRecursion (λ v. Leads E w.0 v) vs → AllByRecursion (λ v. Leads E x v) vs
      each_more [] h = tt
      each_more (v ∷ vs) h = (leads_then E x w.0 v (edge_leads E x w.0 w.1) h.0, each_more vs h.1)

  -- in an acyclic graph a walk visits no node twice
  pub visits_once : IsAcyclic E → (n : ℕ) (x y : A) (w : Walk E n x y) → AllDiffer (visited E n x y w)
  visits_once calm zero x y w = (tt, tt)
  visits_once calm (suc n) x y w =
      (each_apart (visited E n w.0 y w.2) (leads_to_visited n w.0 y w.2), visits_once calm n w.0 y w.2)
    where
      each_apart : (vs : List A) → AllByRecursion (λ v. Leads E w.0 v) vs → AllByRecursion (λ v. x ≢ v) vs
      each_apart [] h = tt
      each_apart (v ∷ vs) h =
          (λ same. calm x (edge_then E x w.0 x w.1 (subst (λ a. Leads E w.0 a) (sym same) h.0)), each_apart vs h.1)

  pub length-visited : (n : ℕ) (x y : A) (w : Walk E n x y) → length (visited E n x y w) ≡ n + 1
  length-visited zero x y w = omega arith
  length-visited (suc n) x y w = omega (arith, length-visited n w.0 y w.2)

  -- what holds at the end and wherever an edge starts holds at each node of a walk
  visited_from : (P : A → Type 0) → ((x y : A) → E x y → P x) → (n : ℕ) (x y : A) (w : Walk E n x y) → P y → AllByRecursion P (visited E n x y w)
  visited_from P start zero x y w p = (subst P (sym w) p, tt)
  visited_from P start (suc n) x y w p = (start x w.0 w.1, visited_from P start n w.0 y w.2 p)

  -- and so does what holds at the start and wherever an edge ends
  visited_to : (P : A → Type 0) → ((x y : A) → E x y → P y) → (n : ℕ) (x y : A) (w : Walk E n x y) → P x → AllByRecursion P (visited E n x y w)
  visited_to P ends zero x y w p = (p, tt)
  visited_to P ends (suc n) x y w p = (p, visited_to P ends n w.0 y w.2 (ends x w.0 w.1))

  -- in an acyclic graph a walk has fewer edges than there are nodes
  pub walk_short : IsAcyclic E → (nodes : List A) → ((x y : A) → E x y → Contains nodes y) → (n : ℕ) (x y : A) → Contains nodes x → Walk E n x y → n < length nodes
  walk_short calm nodes ends n x y here w =
      omega (arith, length-visited n x y w, length-le_from_differ (visited E n x y w) nodes (visits_once calm n x y w) (visited_to (λ v. Contains nodes v) ends n x y w here))

  walk_short_from : IsAcyclic E → (nodes : List A) → ((x y : A) → E x y → Contains nodes x) → (n : ℕ) (x y : A) → Contains nodes y → Walk E n x y → n < length nodes
  walk_short_from calm nodes starts n x y here w =
      omega (arith, length-visited n x y w, length-le_from_differ (visited E n x y w) nodes (visits_once calm n x y w) (visited_from (λ v. Contains nodes v) starts n x y w here))

  -- it has no more edges than there are nodes that edges leave
  pub walk_no_longer : IsAcyclic E → (nodes : List A) → ((x y : A) → E x y → Contains nodes x) → (n : ℕ) (x y : A) → Walk E n x y → n ≤ length nodes
  walk_no_longer calm nodes starts zero x y w = omega arith
  walk_no_longer calm nodes starts (suc n) x y w =
      let e : suc n ≡ n + 1 = omega arith in
      let cut = walk_cut E n 1 x y (subst (λ (k : ℕ). Walk E k x y) e w) in
      omega (arith, walk_short_from calm nodes starts n x cut.0 (starts cut.0 cut.2.0 cut.2.1) cut.1)
