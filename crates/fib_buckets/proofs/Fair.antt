-- What the rule means for the buckets of weighted paths.
use Rattle.std.proofs.Common.{arith, add-zero, ◌≡◌, ℕ, zero, suc, ◌+◌, ◌-◌, ◌*◌, ◌<◌, ◌≤◌, Bool, true, false, cond, ◌==◌, List, [], ◌∷◌, ◌++◌, length, get_or, replicate, Some, ◌⊎◌, inl, inr, refl, ◌∙◌, ap, sum, length-append}
use Rattle.std.specs.Prelude.{flat_map, slice_get, All, nat_lt}
use Rattle.std.specs.List.Sorted.{IsNonDecreasing}
use Rattle.std.specs.List.{enumerate_from}
use Rattle.std.proofs.Math.ListN.{get_or-append, length-replicate}
use Rattle.std.proofs.Math.Seq.{get_or-append_right}
use Rattle.std.proofs.Math.Nat.{mul-le-mul_left}
use Rattle.std.proofs.lemmas.Bool.{cases_lt}
use Rattle.std.proofs.lemmas.Bool.Decides.{nat_tests, Decides-eqb}
use Rattle.std.proofs.lemmas.List.Sums.{sum_by-cons}
use Rattle.fib_buckets.specs.Shares.{floor_of, count_before, extra, share_of, buckets, count_of, IsFair}
use Rattle.fib_buckets.proofs.Sixteen.{length-buckets}
use Rattle.fib_base_list.proofs.Booleans.{unit_of}

count-cons : (j x : ℕ) (xs : List ℕ) → count_of (x ∷ xs) j ≡ unit_of (x == j) + count_of xs j
count-cons j x xs = sum_by-cons (λ y. unit_of (y == j)) x xs

count-append : (j : ℕ) (xs ys : List ℕ) → count_of (xs ++ ys) j ≡ count_of xs j + count_of ys j
count-append j [] ys = omega arith
count-append j (x ∷ xs) ys = omega (arith, count-cons j x (xs ++ ys), count-cons j x xs, count-append j xs ys)

count_own : (j n : ℕ) → count_of (replicate n j) j ≡ n
count_own j zero = refl
count_own j (suc n) =
    let same : unit_of (j == j) ≡ 1 = rw ((Decides-eqb j j).1 refl) refl in
    omega (arith, count-cons j j (replicate n j), same, count_own j n)

count_other : (j x n : ℕ) → (x == j) ≡ false → count_of (replicate n x) j ≡ 0
count_other j x zero h = refl
count_other j x (suc n) h =
    let none : unit_of (x == j) ≡ 0 = rw h refl in
    omega (arith, count-cons j x (replicate n x), none, count_other j x n h)

get_replicate : (n x i d : ℕ) → i < n → get_or (replicate n x) i d ≡ x
get_replicate zero x i d h = absurd (omega (arith, h))
get_replicate (suc n) x zero d h = refl
get_replicate (suc n) x (suc i) d h = get_replicate n x i d (omega (arith, h))

-- runs of places, from place k on
module _ (s : ℕ × ℕ → ℕ) where
  abbrev pub runs : ℕ → List ℕ → List ℕ
  runs k ws = flat_map (λ p. replicate (s p) p.0) (enumerate_from k ws)

  runs-cons : (k w : ℕ) (ws : List ℕ) → runs k (w ∷ ws) ≡ replicate (s (k, w)) k ++ runs (k + 1) ws
  runs-cons k w ws = refl

  -- each run's place is its own
  within : (k : ℕ) (ws : List ℕ) (i d : ℕ) → i < length (runs k ws) → (k ≤ get_or (runs k ws) i d) × (get_or (runs k ws) i d < k + length ws)
  within k [] i d h = absurd (omega (arith, h))
  within k (w ∷ ws) i d h =
      let n = length-replicate (s (k, w)) k in
      let all = length-append (replicate (s (k, w)) k) (runs (k + 1) ws) in
      elim (cases_lt i (s (k, w))) [
        | inl lt ↦ (let here : get_or (replicate (s (k, w)) k ++ runs (k + 1) ws) i d ≡ k = get_or-append (replicate (s (k, w)) k) (runs (k + 1) ws) d i (omega (arith, lt, n)) ∙ get_replicate (s (k, w)) k i d lt in
            (omega (arith, here), omega (arith, here)))
        | inr le ↦ (let there = get_or-append_right (replicate (s (k, w)) k) (runs (k + 1) ws) i d (omega (arith, le, n)) in
            let rest = within (k + 1) ws (i - length (replicate (s (k, w)) k)) d (omega (arith, h, all, le, n)) in
            (omega (arith, there, rest.0), omega (arith, there, rest.1)))
      ]

  rising : (k : ℕ) (ws : List ℕ) → IsNonDecreasing (runs k ws)
  rising k [] i j d le h = absurd (omega (arith, h))
  rising k (w ∷ ws) i j d le h =
      let own = replicate (s (k, w)) k in
      let n = length-replicate (s (k, w)) k in
      let all = length-append own (runs (k + 1) ws) in
      elim (cases_lt i (s (k, w))) [
        | inl lt ↦ (let here : get_or (own ++ runs (k + 1) ws) i d ≡ k = get_or-append own (runs (k + 1) ws) d i (omega (arith, lt, n)) ∙ get_replicate (s (k, w)) k i d lt in
            let later = within k (w ∷ ws) j d h in
            omega (arith, here, later.0))
        | inr ge ↦ (let a = get_or-append_right own (runs (k + 1) ws) i d (omega (arith, ge, n)) in
            let b = get_or-append_right own (runs (k + 1) ws) j d (omega (arith, ge, n, le)) in
            let rest = rising (k + 1) ws (i - length own) (j - length own) d (omega (arith, le)) (omega (arith, h, all, ge, n, le)) in
            omega (arith, a, b, rest))
      ]

  count_low : (k : ℕ) (ws : List ℕ) (j : ℕ) → j < k → count_of (runs k ws) j ≡ 0
  count_low k [] j h = refl
  count_low k (w ∷ ws) j h =
      let other : (k == j) ≡ false = grind (arith, nat_tests) in
      omega (arith, count-append j (replicate (s (k, w)) k) (runs (k + 1) ws), count_other j k (s (k, w)) other, count_low (k + 1) ws j (omega (arith, h)))

  count_at : (k : ℕ) (ws : List ℕ) (i w : ℕ) → slice_get ws i ≡ Some w → count_of (runs k ws) (k + i) ≡ s (k + i, w)
  count_at k [] i w h = cc
  count_at k (v ∷ ws) zero w h =
      let same : v ≡ w = first v w h in
      rw add-zero
      (count-append k (replicate (s (k, v)) k) (runs (k + 1) ws)
      ∙ (omega (arith, count_own k (s (k, v)), count_low (k + 1) ws k (omega arith)) ∙ ap (λ (x : ℕ). s (k, x)) same))
    where
      first : (a b : ℕ) → Some a ≡ Some b → a ≡ b
      first a b e = cc
  count_at k (v ∷ ws) (suc i) w h =
      let on : k + 1 + i ≡ k + suc i = omega arith in
      let other : (k == k + suc i) ≡ false = grind (arith, nat_tests) in
      let rest : count_of (runs (k + 1) ws) (k + suc i) ≡ s (k + suc i, w) = rw on at (count_at (k + 1) ws i w h) in
      omega (arith, count-append (k + suc i) (replicate (s (k, v)) k) (runs (k + 1) ws), count_other (k + suc i) k (s (k, v)) other, rest)

-- the number of a path's buckets
counted : (ws : List ℕ) (j w : ℕ) → slice_get ws j ≡ Some w → count_of (buckets ws) j ≡ share_of ws (j, w)
unfolding buckets
counted ws j w h =
    let on : 0 + j ≡ j = omega arith in
    rw on at (count_at (share_of ws) 0 ws j w h)

one_more : (f : ℕ) (b : Bool) → (f + cond b 1 0 ≡ f) ⊎ (f + cond b 1 0 ≡ f + 1)
one_more f true = inr refl
one_more f false = inl (omega arith)

near_floor : (ws : List ℕ) (j w : ℕ) → (share_of ws (j, w) ≡ floor_of (sum ws) w) ⊎ (share_of ws (j, w) ≡ floor_of (sum ws) w + 1)
unfolding share_of
near_floor ws j w = one_more (floor_of (sum ws) w) (nat_lt (count_before ws (j, w)) (extra ws))

near_count : (ws : List ℕ) (j w : ℕ) → slice_get ws j ≡ Some w → (count_of (buckets ws) j ≡ floor_of (sum ws) w) ⊎ (count_of (buckets ws) j ≡ floor_of (sum ws) w + 1)
near_count ws j w h =
    elim (near_floor ws j w) [ inl e ↦ inl (counted ws j w h ∙ e) | inr e ↦ inr (counted ws j w h ∙ e) ]

floor_rises : (t v w : ℕ) → 0 < t → v ≤ w → floor_of t v ≤ floor_of t w
floor_rises t v w pos le =
    elim (cases_lt (floor_of t w) (floor_of t v)) [
      | inl lt ↦ (let step : t * (floor_of t w + 1) ≤ t * floor_of t v = mul-le-mul_left t (omega (arith, lt)) in absurd (omega (arith, step, le, pos)))
      | inr ge ↦ ge
    ]

bounds_of : (a f : ℕ) → (a ≡ f) ⊎ (a ≡ f + 1) → (f ≤ a) × (a ≤ f + 1)
bounds_of a f (inl e) = (omega (arith, e), omega (arith, e))
bounds_of a f (inr e) = (omega (arith, e), omega (arith, e))

belongs : (ws : List ℕ) → All (λ b. b < length ws) (buckets ws)
unfolding buckets
belongs ws i d h = omega (arith, (within (share_of ws) 0 ws i d h).1)

in_order : (ws : List ℕ) → IsNonDecreasing (buckets ws)
unfolding buckets
in_order ws = rising (share_of ws) 0 ws

pub buckets-fair : (ws : List ℕ) → 0 < sum ws → IsFair ws (buckets ws)
buckets-fair ws pos = record {
  sixteen = length-buckets ws pos;
  each_belongs = belongs ws;
  in_order = in_order ws;
  near = near_count ws;
  even = λ i j v w h k le.
      let a = bounds_of (count_of (buckets ws) i) (floor_of (sum ws) v) (near_count ws i v h) in
      let b = bounds_of (count_of (buckets ws) j) (floor_of (sum ws) w) (near_count ws j w k) in
      omega (arith, a.1, b.0, floor_rises (sum ws) v w pos le);
}
