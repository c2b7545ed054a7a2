-- What the fields stand for.
use Rattle.std.proofs.Common.{arith, ◌≡◌, ℕ, zero, suc, ◌+◌, ◌<◌, ◌≤◌, ◌⊎◌, ◌↔◌, inl, inr, Bool, true, false, not, cond, ◌||◌, ltb, eqb, List, [], ◌∷◌, ◌++◌, length, get_or, set, map, Option, Some, None, refl, sym, ◌∙◌, ap, subst}
use Rattle.std.specs.Prelude.{IsTrue, Contains, reverse, replicate, count_by}
use Rattle.std.proofs.lemmas.Bool.{lt-ltb, le-ltb}
use borrow.Author.Tests.{ltb-true}
use Rattle.std.proofs.lemmas.List.{length-reverse, reverse-append, get_or_default}
use Rattle.std.proofs.lemmas.List.Elements.{Contains-push, Contains-push_cases, Contains-append_left}
use Rattle.std.proofs.lemmas.List.Sums.{sum_by-cons, sum_by_push}
use Rattle.fib_union.specs.Marks.{Mark, unseen, first, passed, fresh}
use Rattle.fib_union.specs.Unions.{Retired, owner, edge_at, Edge, HasIn, into, must_retire, retire_if, stored}
use Rattle.fib_union.specs.inner.Fields.{mark_of, plain, retired_from, union_of, Runs, ins_of, AreProgress, IsKept}
use Rattle.fib_union.specs.declared.retired.RetiredEdge.{RetiredEdge}
use Rattle.fib_union.specs.declared.retired.Progress.{Progress}
use Rattle.fib_union.proofs.Marks.{rev_cons}
use Rattle.fib_union.proofs.Counts.{has_in_counted, counted_has_in}

module _ (ps : List Progress) where
  pub length-from : (i : ℕ) (cs : List (ℕ × ℕ)) → length (retired_from ps i cs) ≡ length cs
  length-from i [] = refl
  length-from i (c ∷ cs) = omega (arith, length-from (i + 1) cs)

  -- counts
  count_from : (o i : ℕ) (cs : List (ℕ × ℕ)) → count_by (λ (r : Retired). eqb r.to o) (retired_from ps i cs) ≡ count_by (λ (c : ℕ × ℕ). eqb c.1 o) cs
  count_from o i [] = refl
  count_from o i (c ∷ cs) =
      let a = sum_by-cons (λ (r : Retired). cond (eqb r.to o) 1 0) (record { cell = c.0; to = c.1; marks = map (mark_of i) ps }) (retired_from ps (i + 1) cs) in
      let b = sum_by-cons (λ (d : ℕ × ℕ). cond (eqb d.1 o) 1 0) c cs in
      omega (arith, a, b, count_from o (i + 1) cs)

  -- what stands in one list stands in the other
  from_there : (i : ℕ) (cs : List (ℕ × ℕ)) (k y : ℕ) → Contains cs (k, y) → (r : Retired) × Contains (retired_from ps i cs) r × (r.cell ≡ k) × (r.to ≡ y)
  from_there i [] k y (j, lt, e) = absurd (omega arith)
  from_there i (c ∷ cs) k y (zero, lt, e) = (record { cell = c.0; to = c.1; marks = map (mark_of i) ps }, (0, omega arith, refl), ap (λ (d : ℕ × ℕ). d.0) e, ap (λ (d : ℕ × ℕ). d.1) e)
  from_there i (c ∷ cs) k y (suc j, lt, e) = (let t = from_there (i + 1) cs k y (j, omega arith, e) in (t.0, (suc t.1.0, omega (arith, t.1.1), t.1.2), t.2, t.3))

  there_from : (i : ℕ) (cs : List (ℕ × ℕ)) (r : Retired) → Contains (retired_from ps i cs) r → Contains cs (r.cell, r.to)
  there_from i [] r (j, lt, e) = absurd (omega arith)
  there_from i (c ∷ cs) r (zero, lt, e) = (0, omega arith, ap (λ (s : Retired). (s.cell, s.to)) e)
  there_from i (c ∷ cs) r (suc j, lt, e) = (let t = there_from (i + 1) cs r (j, omega arith, e) in (suc t.0, omega (arith, t.1), t.2))

count-reverse : {A : Type 0} (p : A → Bool) (xs : List A) → count_by p (reverse xs) ≡ count_by p xs
count-reverse p [] = refl
count-reverse p (x ∷ xs) =
    let a : count_by p (reverse (x ∷ xs)) ≡ count_by p (reverse xs ++ x ∷ []) = ap (λ l. count_by p l) (rev_cons x xs) in
    let b = sum_by_push (λ y. cond (p y) 1 0) (reverse xs) x in
    let c = sum_by-cons (λ y. cond (p y) 1 0) x xs in
    omega (arith, a, b, c, count-reverse p xs)

contains-reverse : {A : Type 0} (xs : List A) (x : A) → Contains xs x → Contains (reverse xs) x
contains-reverse [] x (j, lt, e) = absurd (omega arith)
contains-reverse (y ∷ ys) x (zero, lt, e) = subst (λ l. Contains l x) (sym (rev_cons y ys)) (subst (λ z. Contains (reverse ys ++ y ∷ []) z) e (Contains-push (reverse ys) y))
contains-reverse (y ∷ ys) x (suc j, lt, e) = subst (λ l. Contains l x) (sym (rev_cons y ys)) (Contains-append_left (reverse ys) (y ∷ []) x (contains-reverse ys x (j, omega arith, e)))

reverse-contains : {A : Type 0} (xs : List A) (x : A) → Contains (reverse xs) x → Contains xs x
reverse-contains [] x c = c
reverse-contains (y ∷ ys) x c = elim (Contains-push_cases (reverse ys) y x (subst (λ l. Contains l x) (rev_cons y ys) c)) [
  | inl old ↦ (let r = reverse-contains ys x old in (suc r.0, omega (arith, r.1), r.2))
  | inr e ↦ (0, omega arith, e)
]

module _ (edges : List (Option ℕ)) (cs : List (ℕ × ℕ)) (ps : List Progress) where
  pub into-of : (o : ℕ) → into (union_of edges cs ps) o ≡ ins_of edges cs o
  unfolding into ins_of
  into-of o =
      let a = count-reverse (λ (r : Retired). eqb r.to o) (retired_from ps 0 cs) in
      let b = count_from ps o 0 cs in
      omega (arith, a, b)

  pub length-of : length (union_of edges cs ps).retired ≡ length cs
  length-of = length-reverse (retired_from ps 0 cs) ∙ length-from ps 0 cs

  pub runs_edge : (x y : ℕ) → Runs edges cs x y → Edge (union_of edges cs ps) x y
  runs_edge x y (inl q) = (q.0, q.1, inl q.2)
  runs_edge x y (inr q) = (let t = from_there ps 0 cs q.0 y q.2 in (q.0, q.1, inr (t.0, contains-reverse (retired_from ps 0 cs) t.0 t.1, t.2, t.3)))

  pub edge_runs : (x y : ℕ) → Edge (union_of edges cs ps) x y → Runs edges cs x y
  edge_runs x y (k, e, inl h) = inl (k, e, h)
  edge_runs x y (k, e, inr q) = inr (k, e, subst (λ (c : ℕ × ℕ). Contains cs c) (let a : (q.0.cell, q.0.to) ≡ (k, y) = cc (q.2, q.3) in a) (there_from ps 0 cs q.0 (reverse-contains (retired_from ps 0 cs) q.0 q.1)))

  pub retire-of : (k : ℕ) → must_retire (union_of edges cs ps) k ≡ (eqb (owner k) 0 || ltb 0 (ins_of edges cs (owner k)))
  unfolding must_retire
  retire-of k = ap (λ (n : ℕ). eqb (owner k) 0 || ltb 0 n) (into-of (owner k))

-- a store on the fields

unseen_marks : (i : ℕ) (ps : List Progress) → AreProgress i ps → map (mark_of i) ps ≡ replicate (length ps) unseen
unseen_marks i [] all = refl
unseen_marks i (p ∷ ps) all =
    let met : p.met ≤ i = (all 0 p (omega arith)).within in
    let order : p.passed ≤ p.met = (all 0 p (omega arith)).order in
    let head : mark_of i p ≡ unseen = ap (λ (b : Bool). cond b passed (cond (ltb i p.met) (first p.word) unseen)) (le-ltb i p.passed (omega arith)) ∙ ap (λ (b : Bool). cond b (first p.word) unseen) (le-ltb i p.met met) in
    cc (head, unseen_marks i ps (λ k d lt. all (suc k) d (omega arith)))

from_push : (ps : List Progress) (i : ℕ) (cs : List (ℕ × ℕ)) (c : ℕ × ℕ) → retired_from ps i (cs ++ c ∷ []) ≡ retired_from ps i cs ++ record { cell = c.0; to = c.1; marks = map (mark_of (i + length cs)) ps } ∷ []
from_push ps i [] c =
    let e : i ≡ i + 0 = omega arith in
    let f : ℕ → List Retired = λ j. record { cell = c.0; to = c.1; marks = map (mark_of j) ps } ∷ [] in
    ap f e
from_push ps i (d ∷ cs) c =
    let e : (i + 1) + length cs ≡ i + suc (length cs) = omega arith in
    let t : retired_from ps (i + 1) (cs ++ c ∷ []) ≡ retired_from ps (i + 1) cs ++ record { cell = c.0; to = c.1; marks = map (mark_of (i + suc (length cs))) ps } ∷ [] = from_push ps (i + 1) cs c ∙ ap (λ (j : ℕ). retired_from ps (i + 1) cs ++ record { cell = c.0; to = c.1; marks = map (mark_of j) ps } ∷ []) e in
    ap (λ (rs : List Retired). record { cell = d.0; to = d.1; marks = map (mark_of i) ps } ∷ rs) t

module _ (edges : List (Option ℕ)) (cs : List (ℕ × ℕ)) (ps : List Progress) (k : ℕ) (e : Option ℕ) where
  pub retired-stored : (y : ℕ) → AreProgress (length cs) ps → must_retire (union_of edges cs ps) k ≡ true → edge_at edges k ≡ Some y → stored (length ps) (union_of edges cs ps) k e ≡ union_of (set edges k e) (cs ++ (k, y) ∷ []) ps
  retired-stored y all must is =
      let new : reverse (retired_from ps 0 (cs ++ (k, y) ∷ [])) ≡ record { cell = k; to = y; marks = fresh (length ps) } ∷ reverse (retired_from ps 0 cs) =
      (ap (λ (l : List Retired). reverse l) (from_push ps 0 cs (k, y) ∙ ap (λ (ms : List Mark). retired_from ps 0 cs ++ record { cell = k; to = y; marks = ms } ∷ []) (ap (λ (j : ℕ). map (mark_of j) ps) (let z : 0 + length cs ≡ length cs = omega arith in z) ∙ unseen_marks (length cs) ps all))
      ∙ reverse-append (retired_from ps 0 cs) (record { cell = k; to = y; marks = fresh (length ps) } ∷ [])) in
      ap (λ (rs : List Retired). record { edges = set edges k e; retired = rs }) (
      ap (λ (b : Bool). retire_if b k (fresh (length ps)) (edge_at edges k) (reverse (retired_from ps 0 cs))) must
      ∙ (ap (λ (f : Option ℕ). retire_if true k (fresh (length ps)) f (reverse (retired_from ps 0 cs))) is ∙ sym new)
      )

  pub plain-stored : (must_retire (union_of edges cs ps) k ≡ false) ⊎ (edge_at edges k ≡ None) → stored (length ps) (union_of edges cs ps) k e ≡ union_of (set edges k e) cs ps
  plain-stored (inl not) = ap (λ (b : Bool). record { edges = set edges k e; retired = retire_if b k (fresh (length ps)) (edge_at edges k) (reverse (retired_from ps 0 cs)) }) not
  plain-stored (inr none) = ap (λ (f : Option ℕ). record { edges = set edges k e; retired = retire_if (must_retire (union_of edges cs ps) k) k (fresh (length ps)) f (reverse (retired_from ps 0 cs)) }) none ∙ either (must_retire (union_of edges cs ps) k)
    where
      either : (b : Bool) → record { edges = set edges k e; retired = retire_if b k (fresh (length ps)) None (reverse (retired_from ps 0 cs)) } ≡ union_of (set edges k e) cs ps
      either true = refl
      either false = refl

module _ {n : ℕ} {edges : List (Option ℕ)} {ins : List ℕ} {os : List RetiredEdge} {newest : List ℕ} {ps : List Progress} {left : List ℕ} {room : ℕ} (h : IsKept n edges ins os newest ps left room) where
  pub ins_read : (o x : ℕ) → o < n → x ≡ get_or ins o x → x ≡ into (union_of edges (map plain os) ps) o
  ins_read o x lt is = is ∙ (get_or_default ins o x 0 (let s = h.counted.size in omega arith) ∙ (h.counted.here o lt ∙ sym (into-of edges (map plain os) ps o)))

  pub has_in_is : (o x : ℕ) → o < n → x ≡ get_or ins o x → IsTrue (ltb 0 x) ↔ HasIn (union_of edges (map plain os) ps) o
  has_in_is o x lt is =
      let e = ins_read o x lt is in
      (λ t. counted_has_in (union_of edges (map plain os) ps) o (subst (λ (m : ℕ). 0 < m) e (ltb-true 0 x t)), λ q. lt-ltb 0 x (let p = has_in_counted (union_of edges (map plain os) ps) o q in omega (arith, p, e)))
