-- What is known of prefixes, as a row comes, or goes.
use Rattle.std.proofs.Common.{◌≡◌, ℕ, suc, ◌+◌, ◌<◌, ◌≤◌, inl, inr, Bool, true, false, cond, List, [], ◌∷◌, length, refl, sym, ◌∙◌, subst, arith}
use Rattle.std.specs.Prelude.{Contains, Option, Some, sum_by}
use Rattle.std.specs.List.{IsDistinct}
use Rattle.std.specs.Map.{keys_of, lookup, remove_entry}
use Rattle.std.specs.List.Sorted.{IsPermutation}
use Rattle.std.proofs.lemmas.Bool.{cases_lt}
use Rattle.std.proofs.lemmas.List.Sums.{sum_by-cons}
use Rattle.std.proofs.lemmas.List.Sorted.{sum_by-IsPermutation}
use Rattle.std.proofs.lemmas.Map.Views.{lookup-from_Contains}
use Rattle.fib_addr.specs.Prefixes.{Prefix, same_prefix}
use Rattle.fib_addr.proofs.PrefixLaws.{same_prefix-Decides, same_prefix_equiv}
use Rattle.fib_pool.specs.declared.object.AdjacencyRecord.{AdjacencyRecord}
use Rattle.fib_stack_ledger.specs.declared.ledger.Known.{Known}
use Rattle.fib_stack_ledger.specs.declared.ledger.Use.{Use}
use Rattle.fib_stack_ledger.specs.Ledgers.{known_of, used_by, times, total, count, record_used, same_record}

abbrev weigh : (List Use → ℕ) → Option Known → ℕ
weigh f o = f (used_by o)

abbrev sum_of : (List Use → ℕ) → List (Prefix × Known) → ℕ
sum_of f rows = sum_by (λ r. f r.1.uses) rows

sum_without : (f : List Use → ℕ) (test : Prefix → Bool) → f [] ≡ 0 → (rows : List (Prefix × Known)) → weigh f (lookup test rows) + sum_of f (remove_entry test rows) ≡ sum_of f rows
sum_without f test none [] = omega (arith, none)
sum_without f test none (r ∷ rows) = by (sum_without f test none rows) (test r.0)
  where
    by : weigh f (lookup test rows) + sum_of f (remove_entry test rows) ≡ sum_of f rows → (b : Bool) → weigh f (cond b (Some r.1) (lookup test rows)) + sum_of f (cond b rows (r ∷ remove_entry test rows)) ≡ sum_of f (r ∷ rows)
    by ih true = sym (sum_by-cons (λ (q : Prefix × Known). f q.1.uses) r rows)
    by ih false =
        let a = sum_by-cons (λ (q : Prefix × Known). f q.1.uses) r (remove_entry test rows) in
        let b = sum_by-cons (λ (q : Prefix × Known). f q.1.uses) r rows in
        omega (arith, a, b, ih)

removed : (f : List Use → ℕ) (test : Prefix → Bool) → f [] ≡ 0 → (rows new : List (Prefix × Known)) → IsPermutation (remove_entry test rows) new → weigh f (lookup test rows) + sum_of f new ≡ sum_of f rows
removed f test none rows new perm =
    let s = sum_by-IsPermutation (λ (q : Prefix × Known). f q.1.uses) (remove_entry test rows) new perm in
    let w = sum_without f test none rows in
    omega (arith, s, w)

pub total_removed : (test : Prefix → Bool) (rows new : List (Prefix × Known)) (m : AdjacencyRecord) → IsPermutation (remove_entry test rows) new → times m (used_by (lookup test rows)) + total new m ≡ total rows m
total_removed test rows new m perm = removed (λ us. times m us) test refl rows new perm

pub count_removed : (test : Prefix → Bool) (rows new : List (Prefix × Known)) → IsPermutation (remove_entry test rows) new → length (used_by (lookup test rows)) + count new ≡ count rows
count_removed test rows new perm = removed (λ us. length us) test refl rows new perm

pub total_put : (e : Prefix) (k : Known) (rows new : List (Prefix × Known)) (m : AdjacencyRecord) → IsPermutation ((e, k) ∷ rows) new → total new m ≡ times m k.uses + total rows m
total_put e k rows new m perm = sum_by-IsPermutation (λ (q : Prefix × Known). times m q.1.uses) ((e, k) ∷ rows) new perm ∙ sum_by-cons (λ (q : Prefix × Known). times m q.1.uses) (e, k) rows

pub count_put : (e : Prefix) (k : Known) (rows new : List (Prefix × Known)) → IsPermutation ((e, k) ∷ rows) new → count new ≡ length k.uses + count rows
count_put e k rows new perm = sum_by-IsPermutation (λ (q : Prefix × Known). length q.1.uses) ((e, k) ∷ rows) new perm ∙ sum_by-cons (λ (q : Prefix × Known). length q.1.uses) (e, k) rows

pub total_reordered : (rows new : List (Prefix × Known)) (m : AdjacencyRecord) → IsPermutation rows new → total new m ≡ total rows m
total_reordered rows new m perm = sum_by-IsPermutation (λ (q : Prefix × Known). times m q.1.uses) rows new perm

pub count_reordered : (rows new : List (Prefix × Known)) → IsPermutation rows new → count new ≡ count rows
count_reordered rows new perm = sum_by-IsPermutation (λ (q : Prefix × Known). length q.1.uses) rows new perm

pub not_same : (d e : Prefix) → (d ≡ e → ⊥) → same_prefix e d ≡ false
not_same d e ne = by (same_prefix e d) refl
  where
    by : (b : Bool) → same_prefix e d ≡ b → same_prefix e d ≡ false
    by true is = absurd (ne (sym ((same_prefix-Decides e d).0 is)))
    by false is = is

-- what is used by a prefix is used
pub times_within : (rows : List (Prefix × Known)) (e : Prefix) (m : AdjacencyRecord) → times m (used_by (known_of rows e)) ≤ total rows m
times_within rows e m = let w = sum_without (λ us. times m us) (same_prefix e) refl rows in omega (arith, w)

pub uses_within : (rows : List (Prefix × Known)) (e : Prefix) → length (used_by (known_of rows e)) ≤ count rows
uses_within rows e = let w = sum_without (λ us. length us) (same_prefix e) refl rows in omega (arith, w)

-- no record is used more often than there are uses
one_at_most : (b : Bool) (n k : ℕ) → n ≤ k → cond b 1 0 + n ≤ k + 1
one_at_most true n k le = omega (arith, le)
one_at_most false n k le = omega (arith, le)

times_few : (m : AdjacencyRecord) (us : List Use) → times m us ≤ length us
times_few m [] = omega arith
times_few m (u ∷ us) = let h = one_at_most (same_record m (record_used u)) (times m us) (length us) (times_few m us) in omega (arith, h)

pub total_few : (rows : List (Prefix × Known)) (m : AdjacencyRecord) → total rows m ≤ count rows
total_few [] m = omega arith
total_few (r ∷ rows) m =
    let a = sum_by-cons (λ (q : Prefix × Known). times m q.1.uses) r rows in
    let b = sum_by-cons (λ (q : Prefix × Known). length q.1.uses) r rows in
    let ih = total_few rows m in
    let one = times_few m r.1.uses in
    omega (arith, a, b, ih, one)

-- a record that is used is some row's, and so some prefix's where no prefix stands twice
user_row : (rows : List (Prefix × Known)) (m : AdjacencyRecord) → 0 < total rows m → (r : Prefix × Known) × Contains rows r × (0 < times m r.1.uses)
user_row [] m lt = absurd (omega (arith, lt))
user_row (r ∷ rows) m lt = elim (cases_lt 0 (times m r.1.uses)) [
  | inl mine ↦ (r, (0, omega arith, refl), mine)
  | inr none ↦ (let s = sum_by-cons (λ (q : Prefix × Known). times m q.1.uses) r rows in
      let u = user_row rows m (omega (arith, s, lt, none)) in
      let c = u.1 in (u.0, (suc c.0, omega (arith, c.1), c.2), u.2))
]

pub user_of : (rows : List (Prefix × Known)) (m : AdjacencyRecord) → IsDistinct same_prefix (keys_of rows) → 0 < total rows m → (e : Prefix) × (0 < times m (used_by (known_of rows e)))
user_of rows m one lt =
    let u = user_row rows m lt in
    let found : known_of rows u.0.0 ≡ Some u.0.1 = lookup-from_Contains same_prefix_equiv u.0.0 u.0.1 rows one u.1 in
    (u.0.0, subst (λ (o : Option Known). 0 < times m (used_by o)) (sym found) u.2)
