-- The buckets are sixteen.
use Rattle.std.proofs.Common.{arith, ◌≡◌, ℕ, ◌+◌, ◌-◌, ◌*◌, ◌<◌, ◌≤◌, true, false, cond, ltb, List, [], ◌∷◌, length, get_or, replicate, ◌⊎◌, refl, ap, sum}
use Rattle.std.specs.List.{count_by, sum_by, enumerate_from}
use Rattle.std.proofs.Math.ListN.{length-replicate}
use Rattle.std.proofs.Math.Nat.{le_of_mul-le-mul_left}
use Rattle.std.proofs.lemmas.List.Concat.{length-flat_map}
use Rattle.std.proofs.lemmas.List.FromFn.{length-enumerate_from, get_or-enumerate_from}
use Rattle.std.proofs.lemmas.List.Sums.{sum_by-cons}
use Rattle.std.proofs.lemmas.Bool.Decides.{nat_tests}
use Rattle.fib_buckets.specs.Shares.{floor_of, rest_of, extra, stands_before, count_before, share_of, buckets}
use Rattle.fib_buckets.proofs.Ranks.{count_ranks}

added : (t f F r R w s : ℕ) → t * f + r ≡ 16 * w → t * F + R ≡ 16 * s → t * (f + F) + (r + R) ≡ 16 * (w + s)
added t f F r R w s h k = omega (arith, h, k)

floors_and_rests : (t : ℕ) → 0 < t → (ws : List ℕ) → t * sum_by (floor_of t) ws + sum_by (rest_of t) ws ≡ 16 * sum ws
floors_and_rests t pos [] = omega arith
floors_and_rests t pos (w ∷ ws) =
    rw (sum_by-cons (floor_of t) w ws, sum_by-cons (rest_of t) w ws, sum_by-cons (λ x. x) w ws)
    (added t (floor_of t w) (sum_by (floor_of t) ws) (rest_of t w) (sum_by (rest_of t) ws) w (sum ws) (omega arith) (floors_and_rests t pos ws))

shared : (t d F : ℕ) → d + F ≡ 16 → t * d + t * F ≡ t * 16
shared t d F e = rw (← e) (omega arith)

rests_small : (t : ℕ) → 0 < t → (ws : List ℕ) → sum_by (rest_of t) ws + length ws ≤ t * length ws
rests_small t pos [] = omega arith
rests_small t pos (w ∷ ws) = omega (arith, rests_small t pos ws, sum_by-cons (rest_of t) w ws)

-- what is given first is at most 16, and what is left at most one for each
floors_bound : (ws : List ℕ) → 0 < sum ws → sum_by (floor_of (sum ws)) ws ≤ 16
floors_bound ws pos = le_of_mul-le-mul_left {k = sum ws} (omega (arith, floors_and_rests (sum ws) pos ws)) pos

extra_bound : (ws : List ℕ) → 0 < sum ws → extra ws ≤ length ws
unfolding extra
extra_bound ws pos =
    let F = sum_by (floor_of (sum ws)) ws in
    let left : sum ws * (16 - F) + sum ws * F ≡ sum ws * 16 = shared (sum ws) (16 - F) F (omega (arith, floors_bound ws pos)) in
    le_of_mul-le-mul_left {k = sum ws} (omega (arith, left, floors_and_rests (sum ws) pos ws, rests_small (sum ws) pos ws)) pos

sum_by-enumerate : (f : ℕ → ℕ) (n : ℕ) (ws : List ℕ) → sum_by (λ p. f p.1) (enumerate_from n ws) ≡ sum_by f ws
sum_by-enumerate f n [] = refl
sum_by-enumerate f n (w ∷ ws) = omega (arith, sum_by-cons (λ (p : ℕ × ℕ). f p.1) (n, w) (enumerate_from (n + 1) ws), sum_by-cons f w ws, sum_by-enumerate f (n + 1) ws)

sum_by-sum : {X : Type 0} (f g : X → ℕ) (xs : List X) → sum_by (λ x. f x + g x) xs ≡ sum_by f xs + sum_by g xs
sum_by-sum f g [] = refl
sum_by-sum f g (x ∷ xs) = omega (arith, sum_by-cons (λ y. f y + g y) x xs, sum_by-cons f x xs, sum_by-cons g x xs, sum_by-sum f g xs)

sum_by-same : {X : Type 0} (f g : X → ℕ) → ((x : X) → f x ≡ g x) → (xs : List X) → sum_by f xs ≡ sum_by g xs
sum_by-same f g h [] = refl
sum_by-same f g h (x ∷ xs) = omega (arith, sum_by-cons f x xs, sum_by-cons g x xs, h x, sum_by-same f g h xs)

module _ (t : ℕ) where
  irreflexive : (p : ℕ × ℕ) → stands_before t p p ≡ false
  irreflexive p = grind (arith, nat_tests)

  transitive : (p q r : ℕ × ℕ) → stands_before t p q ≡ true → stands_before t q r ≡ true → stands_before t p r ≡ true
  transitive p q r h k = grind (arith, nat_tests)

  connected : (p q : ℕ × ℕ) → p.0 < q.0 → (stands_before t p q ≡ true) ⊎ (stands_before t q p ≡ true)
  connected p q h = grind (arith, nat_tests)

total : (ws : List ℕ) (i j : ℕ) (d : ℕ × ℕ) → i < j → j < length (enumerate_from 0 ws) → (stands_before (sum ws) (get_or (enumerate_from 0 ws) i d) (get_or (enumerate_from 0 ws) j d) ≡ true) ⊎ (stands_before (sum ws) (get_or (enumerate_from 0 ws) j d) (get_or (enumerate_from 0 ws) i d) ≡ true)
total ws i j d l m =
    let n = length-enumerate_from 0 ws in
    let ei = get_or-enumerate_from 0 ws i d (omega (arith, l, m, n)) in
    let ej = get_or-enumerate_from 0 ws j d (omega (arith, m, n)) in
    connected (sum ws) (get_or (enumerate_from 0 ws) i d) (get_or (enumerate_from 0 ws) j d)
    (omega (arith, l, ap (λ (p : ℕ × ℕ). p.0) ei, ap (λ (p : ℕ × ℕ). p.0) ej))

one_each : (ws : List ℕ) → 0 < sum ws → count_by (λ p. ltb (count_before ws p) (extra ws)) (enumerate_from 0 ws) ≡ extra ws
unfolding count_before
one_each ws pos =
    count_ranks (stands_before (sum ws)) (irreflexive (sum ws)) (transitive (sum ws)) (enumerate_from 0 ws) (total ws) (0, 0) (extra ws)
    (omega (arith, extra_bound ws pos, length-enumerate_from 0 ws))

-- sixteen buckets
pub length-buckets : (ws : List ℕ) → 0 < sum ws → length (buckets ws) ≡ 16
unfolding buckets share_of extra
length-buckets ws pos =
    let es = enumerate_from 0 ws in
    let more : ℕ × ℕ → ℕ = λ p. cond (ltb (count_before ws p) (extra ws)) 1 0 in
    let a = length-flat_map (λ (p : ℕ × ℕ). replicate (share_of ws p) p.0) es in
    let b = sum_by-same (λ (p : ℕ × ℕ). length (replicate (share_of ws p) p.0)) (λ p. floor_of (sum ws) p.1 + more p) (λ p. length-replicate (share_of ws p) p.0) es in
    let c = sum_by-sum (λ (p : ℕ × ℕ). floor_of (sum ws) p.1) more es in
    let d = sum_by-enumerate (floor_of (sum ws)) 0 ws in
    omega (arith, a, b, c, d, one_each ws pos, floors_bound ws pos)
