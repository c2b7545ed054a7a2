-- What is counted is there.
use Rattle.std.proofs.Common.{ltb, ◌≡◌, ◌≢◌, ℕ, zero, suc, ◌<◌, ◌⊎◌, inl, inr, Bool, true, false, cond, eqb, eq-eqb, eqb-true, List, [], ◌∷◌, length, get_or, Option, Some, None, refl, ap, ◌∙◌, arith, ◌||◌, ◌↔◌}
use Rattle.std.specs.Prelude.{count_by}
use Rattle.std.proofs.lemmas.Bool.{cases_lt, false≢true, ltb-true, lt-ltb}
use Rattle.std.proofs.lemmas.List.Elements.{Contains-get_or}
use Rattle.std.proofs.lemmas.List.Sums.{sum_by-cons, get_or-le-sum_by}
use Rattle.std.proofs.lemmas.Bool.Decides.{nat_tests}
use Rattle.fib_union.specs.Unions.{Retired, Union, owner, edge_at, HasIn, leads_to, into, must_retire}

either : (b : Bool) → (b ≡ true) ⊎ (b ≡ false)
either true = inl refl
either false = inr refl

pub counted_at : {A : Type 0} (p : A → Bool) (xs : List A) (d : A) → 0 < count_by p xs → (k : ℕ) × (k < length xs) × (p (get_or xs k d) ≡ true)
counted_at p [] d h = absurd (omega arith)
counted_at p (x ∷ xs) d h = elim (either (p x)) [
  | inl is ↦ (0, omega arith, is)
  | inr not ↦ (let zero_here : ◌≡◌ {A = ℕ} (cond (p x) 1 0) 0 = ap (λ (b : Bool). cond b 1 0) not in
      let r = counted_at p xs d (omega (arith, sum_by-cons (λ y. cond (p y) 1 0) x xs)) in
      (suc r.0, omega (arith, r.1), r.2))
]

pub there_counted : {A : Type 0} (p : A → Bool) (xs : List A) (k : ℕ) (d : A) → k < length xs → p (get_or xs k d) ≡ true → 0 < count_by p xs
there_counted p xs k d lt h = let one : ◌≡◌ {A = ℕ} (cond (p (get_or xs k d)) 1 0) 1 = ap (λ (b : Bool). cond b 1 0) h in omega (arith, get_or-le-sum_by (λ y. cond (p y) 1 0) xs k d lt)

leads_there : (o : ℕ) (e : Option ℕ) → leads_to o e ≡ true → e ≡ Some o
leads_there o None h = absurd (false≢true h)
leads_there o (Some y) h = ap (λ (i : ℕ). Some i) (eqb-true y o h)

there_leads : (o : ℕ) (e : Option ℕ) → e ≡ Some o → leads_to o e ≡ true
there_leads o None h = absurd (let bad : ⊥ = cc in bad)
there_leads o (Some y) h = eq-eqb y o (let same : y ≡ o = cc in same)

edge_in : (edges : List (Option ℕ)) (k o : ℕ) → edge_at edges k ≡ Some o → k < length edges
edge_in [] k o h = absurd (let bad : ⊥ = cc in bad)
edge_in (e ∷ es) zero o h = omega arith
edge_in (e ∷ es) (suc k) o h = omega (arith, edge_in es k o h)

pub has_in_counted : (u : Union) (o : ℕ) → HasIn u o → 0 < into u o
unfolding into
has_in_counted u o (k, inl h) = let n = there_counted (leads_to o) u.edges k None (edge_in u.edges k o h) (there_leads o (edge_at u.edges k) h) in omega (arith, n)
has_in_counted u o (k, inr q) =
    let n = there_counted (λ (r : Retired). eqb r.to o) u.retired q.1.0 q.0 q.1.1 (eq-eqb _ o (ap (λ (r : Retired). r.to) q.1.2 ∙ q.3)) in omega (arith, n)

pub counted_has_in : (u : Union) (o : ℕ) → 0 < into u o → HasIn u o
unfolding into
counted_has_in u o h = elim (cases_lt 0 (count_by (leads_to o) u.edges)) [
  | inl lt ↦ (let c = counted_at (leads_to o) u.edges None lt in (c.0, inl (leads_there o (edge_at u.edges c.0) c.2)))
  | inr le ↦ (let none : Retired = record { cell = 0; to = 0; marks = [] } in
      let c = counted_at (λ (r : Retired). eqb r.to o) u.retired none (omega arith) in
      let r : Retired = get_or u.retired c.0 none in
      (r.cell, inr (r, Contains-get_or u.retired c.0 none c.1, refl, eqb-true r.to o c.2)))
]

-- where an object has no edge into it and isn't object 0, what its cells hold leaves at once
pub no_retire : (u : Union) (k : ℕ) → owner k ≢ 0 → into u (owner k) ≡ 0 → must_retire u k ≡ false
unfolding must_retire
no_retire u k ne none = grind (arith, nat_tests)

either_of : (b c : Bool) (P Q : Type 0) → (b ≡ true → P) → (P → b ≡ true) → (c ≡ true → Q) → (Q → c ≡ true) → (b || c) ≡ true ↔ (P ⊎ Q)
either_of true c P Q p p' q q' = (λ e. inl (p refl), λ h. refl)
either_of false c P Q p p' q q' = (λ e. inr (q e), λ h. elim h [ inl x ↦ absurd (false≢true (p' x)) | inr y ↦ q' y ])

-- what a store replaces is retired exactly where its object is object 0 or an edge leads to it
pub retire_iff : (u : Union) (k : ℕ) → (must_retire u k ≡ true) ↔ ((owner k ≡ 0) ⊎ HasIn u (owner k))
unfolding must_retire
retire_iff u k = either_of (eqb (owner k) 0) (ltb 0 (into u (owner k))) (owner k ≡ 0) (HasIn u (owner k))
    (eqb-true (owner k) 0) (eq-eqb (owner k) 0)
    (λ e. counted_has_in u (owner k) (ltb-true 0 (into u (owner k)) e)) (λ h. lt-ltb 0 (into u (owner k)) (has_in_counted u (owner k) h))
