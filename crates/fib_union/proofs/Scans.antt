-- What a look does to the union.
use Rattle.std.proofs.Common.{arith, ◌≡◌, ℕ, ◌+◌, Bool, true, false, not, cond, eqb, List, [], ◌∷◌, ◌++◌, map, inl, inr, refl, ◌∙◌, ap, zero, suc}
use Rattle.std.specs.Prelude.{filter, reverse, count_by, Contains}
use Rattle.std.proofs.lemmas.List.{reverse-append}
use Rattle.std.proofs.lemmas.List.Sums.{sum_by-cons, sum_by-append}
use Rattle.fib_reach.specs.Walks.{IsAcyclic}
use Rattle.fib_reach.proofs.Walking.{acyclic_part}
use Rattle.fib_union.specs.Unions.{Retired, Union, Goes, Edge, into, marked, is_gone, scanned, gone_to, times}

-- a copy that stays was there, with other marks
was_there : (n w : ℕ) (rs : List Retired) (r : Retired) → Contains (filter (λ s. not (is_gone s)) (map (marked n w) rs)) r
    → (s : Retired) × Contains rs s × (s.cell ≡ r.cell) × (s.to ≡ r.to)
was_there n w [] r c = absurd (let low = c.1 in let bad : ⊥ = omega arith in bad)
was_there n w (s ∷ ss) r c = by_case (is_gone (marked n w s)) (λ d. deeper (was_there n w ss r d)) c
  where
    deeper : (q : Retired) × Contains ss q × (q.cell ≡ r.cell) × (q.to ≡ r.to) → (q : Retired) × Contains (s ∷ ss) q × (q.cell ≡ r.cell) × (q.to ≡ r.to)
    deeper q = (q.0, (suc q.1.0, omega (arith, q.1.1), q.1.2), q.2, q.3)

    by_case : (g : Bool) → (Contains (filter (λ q. not (is_gone q)) (map (marked n w) ss)) r → (q : Retired) × Contains (s ∷ ss) q × (q.cell ≡ r.cell) × (q.to ≡ r.to))
        → Contains (cond (not g) (marked n w s ∷ filter (λ q. not (is_gone q)) (map (marked n w) ss)) (filter (λ q. not (is_gone q)) (map (marked n w) ss))) r
        → (q : Retired) × Contains (s ∷ ss) q × (q.cell ≡ r.cell) × (q.to ≡ r.to)
    by_case true rest c = rest c
    by_case false rest (zero, low, is) = (s, (0, omega arith, refl), ap (λ (q : Retired). q.cell) is, ap (λ (q : Retired). q.to) is)
    by_case false rest (suc i, low, is) = rest (i, omega (arith, low), is)

-- no edge is new
pub goes-scanned : (u : Union) (n w k y : ℕ) → Goes (scanned n w u) k y → Goes u k y
goes-scanned u n w k y (inl e) = inl e
goes-scanned u n w k y (inr q) = let s = was_there n w u.retired q.0 q.1 in inr (s.0, s.1, s.2 ∙ q.2, s.3 ∙ q.3)

pub edge-scanned : (u : Union) (n w x y : ℕ) → Edge (scanned n w u) x y → Edge u x y
edge-scanned u n w x y e = (e.0, e.1, goes-scanned u n w e.0 y e.2)

pub acyclic-scanned : (u : Union) (n w : ℕ) → IsAcyclic (Edge u) → IsAcyclic (Edge (scanned n w u))
acyclic-scanned u n w calm = acyclic_part (Edge (scanned n w u)) (Edge u) (edge-scanned u n w) calm

-- edges that leave are counted apart
module _ (o : ℕ) where
  abbrev to_o : List Retired → ℕ
  to_o rs = count_by (λ (r : Retired). eqb r.to o) rs

  same_marked : (n w : ℕ) (rs : List Retired) → to_o (map (marked n w) rs) ≡ to_o rs
  same_marked n w [] = refl
  same_marked n w (r ∷ rs) = (let a = sum_by-cons (λ (s : Retired). cond (eqb s.to o) 1 0) (marked n w r) (map (marked n w) rs) in let b = sum_by-cons (λ (s : Retired). cond (eqb s.to o) 1 0) r rs in let c = same_marked n w rs in omega arith)

  both_parts : (rs : List Retired) → to_o (filter (λ r. not (is_gone r)) rs) + to_o (filter is_gone rs) ≡ to_o rs
  both_parts [] = refl
  both_parts (r ∷ rs) = (let b = sum_by-cons (λ (s : Retired). cond (eqb s.to o) 1 0) r rs in by_case (is_gone r) (both_parts rs) b)
    where
      by_case : (g : Bool) → to_o (filter (λ s. not (is_gone s)) rs) + to_o (filter is_gone rs) ≡ to_o rs → to_o (r ∷ rs) ≡ cond (eqb r.to o) 1 0 + to_o rs → to_o (cond (not g) (r ∷ filter (λ s. not (is_gone s)) rs) (filter (λ s. not (is_gone s)) rs)) + to_o (cond g (r ∷ filter is_gone rs) (filter is_gone rs)) ≡ to_o (r ∷ rs)
      by_case true e b = (let c = sum_by-cons (λ (s : Retired). cond (eqb s.to o) 1 0) r (filter is_gone rs) in omega arith)
      by_case false e b = (let c = sum_by-cons (λ (s : Retired). cond (eqb s.to o) 1 0) r (filter (λ s. not (is_gone s)) rs) in omega arith)

  filter-append : (xs ys : List Retired) → filter is_gone (xs ++ ys) ≡ filter is_gone xs ++ filter is_gone ys
  filter-append [] ys = refl
  filter-append (x ∷ xs) ys = by_case (is_gone x) (filter-append xs ys)
    where
      by_case : (g : Bool) → filter is_gone (xs ++ ys) ≡ filter is_gone xs ++ filter is_gone ys → cond g (x ∷ filter is_gone (xs ++ ys)) (filter is_gone (xs ++ ys)) ≡ cond g (x ∷ filter is_gone xs) (filter is_gone xs) ++ filter is_gone ys
      by_case true e = ap (λ (l : List Retired). x ∷ l) e
      by_case false e = e

  reversed : (rs : List Retired) → to_o (filter is_gone (reverse rs)) ≡ to_o (filter is_gone rs)
  reversed [] = refl
  reversed (r ∷ rs) =
      let turn : reverse (r ∷ rs) ≡ reverse rs ++ r ∷ [] = reverse-append (r ∷ []) rs in
      let e : to_o (filter is_gone (reverse (r ∷ rs))) ≡ to_o (filter is_gone (reverse rs) ++ filter is_gone (r ∷ [])) = ap (λ (l : List Retired). to_o (filter is_gone l)) turn ∙ ap to_o (filter-append (reverse rs) (r ∷ [])) in
      let a = sum_by-append (λ (s : Retired). cond (eqb s.to o) 1 0) (filter is_gone (reverse rs)) (filter is_gone (r ∷ [])) in
      by_case (is_gone r) (reversed rs) e a
    where
      by_case : (g : Bool) → to_o (filter is_gone (reverse rs)) ≡ to_o (filter is_gone rs) → to_o (filter is_gone (reverse (r ∷ rs))) ≡ to_o (filter is_gone (reverse rs) ++ cond g (r ∷ []) []) → to_o (filter is_gone (reverse rs) ++ cond g (r ∷ []) []) ≡ to_o (filter is_gone (reverse rs)) + to_o (cond g (r ∷ []) []) → to_o (filter is_gone (reverse (r ∷ rs))) ≡ to_o (cond g (r ∷ filter is_gone rs) (filter is_gone rs))
      by_case true i e a = (let c = sum_by-cons (λ (s : Retired). cond (eqb s.to o) 1 0) r (filter is_gone rs) in let d = sum_by-cons (λ (s : Retired). cond (eqb s.to o) 1 0) r [] in omega arith)
      by_case false i e a = omega arith

  times_to : (rs : List Retired) → times o (map (λ (r : Retired). r.to) rs) ≡ to_o rs
  times_to [] = refl
  times_to (r ∷ rs) = (let a = sum_by-cons (λ (x : ℕ). cond (eqb x o) 1 0) r.to (map (λ (s : Retired). s.to) rs) in let b = sum_by-cons (λ (s : Retired). cond (eqb s.to o) 1 0) r rs in let c = times_to rs in omega arith)

  -- an edge is still in the union, or among those that left
  pub into-scanned : (u : Union) (n w : ℕ) → into (scanned n w u) o + times o (gone_to n w u) ≡ into u o
  unfolding into
  into-scanned u n w =
      let rs = map (marked n w) u.retired in
      let a = both_parts rs in
      let b = reversed rs in
      let c = times_to (filter is_gone (reverse rs)) in
      let d = same_marked n w u.retired in
      omega (arith, a, b, c, d)
