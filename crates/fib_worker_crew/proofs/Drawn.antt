-- Claims are drawn once, so each frame was claimed once.
use Rattle.std.proofs.Common.{◌≡◌, ◌<◌, ◌≤◌, ◌+◌, ◌-◌, ◌++◌, ◌∷◌, [], ℕ, List, length, arith, refl, ap, ◌∙◌, sym, zero, suc, Option, Some, None}
use Rattle.std.proofs.Math.Decide.{ℕ_discrete}
use Rattle.std.proofs.Math.Logic.{dite}
use Rattle.std.specs.Prelude.{eqb, nat_lt, if◌then◌else◌}
use Rattle.std.proofs.lemmas.List.{length-append}
use Rattle.std.proofs.lemmas.Bool.Decides.{nat_tests}
use Rattle.fib_core_lawful.specs.Claims.{times}
use Rattle.fib_core_lawful.proofs.Claiming.{times_append}
use Rattle.fib_worker_crew.specs.Claims.{IsDrawnOnce}
use Rattle.fib_worker_crew.specs.Work.{frames_in, Named}
use Rattle.fib_worker_crew.specs.declared.claims.Frame.{Frame}

-- the numbers of the frames
abbrev pub numbers_of : List Frame → List ℕ
numbers_of [] = []
numbers_of (f ∷ fs) = f.number ∷ numbers_of fs

abbrev pub numbers_in : List (Option Frame) → List ℕ
numbers_in steps = numbers_of (frames_in steps)

pub length_numbers : (ss : List (Option Frame)) → length (numbers_in ss) ≡ length (frames_in ss)
length_numbers [] = refl
length_numbers (None ∷ ss) = length_numbers ss
length_numbers (Some f ∷ ss) = (let l = length_numbers ss in omega (arith, l))

-- one where they are equal
abbrev pub one_at : ℕ → ℕ → ℕ
one_at x k = if eqb x k then 1 else 0

pub one_same : (x k : ℕ) → x ≡ k → one_at x k ≡ 1
one_same x k e = grind (arith, nat_tests, e)

pub one_other : (x k : ℕ) → (x ≡ k → ⊥) → one_at x k ≡ 0
one_other x k ne = grind (arith, nat_tests, ne)

one_lower : (base x k : ℕ) → one_at (base + x) (base + k) ≡ one_at x k
one_lower base x k = grind (arith, nat_tests)

abbrev below : ℕ → ℕ → ℕ
below n m = if nat_lt n m then 1 else 0

below_one : (n m : ℕ) → n < m → below n m ≡ 1
below_one n m lt = grind (arith, nat_tests, lt)

past_none : (n m : ℕ) → m ≤ n → below n m ≡ 0
past_none n m le = grind (arith, nat_tests, le)

pub times_head : (x : ℕ) (xs : List ℕ) → 0 < times x (x ∷ xs)
times_head x xs = (let o = one_same x x refl in omega (arith, o))

pub times_tail : (k x : ℕ) (xs : List ℕ) → 0 < times k xs → 0 < times k (x ∷ xs)
times_tail k x xs lt = omega (arith, lt)

-- a claim that names a frame is as often drawn as the frame was forwarded
pub times_named : (base count k : ℕ) (cs : List ℕ) (ss : List (Option Frame)) → Named base count cs ss → k < count → times (base + k) cs ≡ times k (numbers_in ss)
times_named base count k [] [] m lt = refl
times_named base count k [] (s ∷ ss) m lt = absurd m
times_named base count k (c ∷ cs) [] m lt = absurd m
times_named base count k (c ∷ cs) (None ∷ ss) m lt =
    let ne : c ≡ base + k → ⊥ = λ e. (let past = m.0 (omega (arith, e)) in omega (arith, e, lt, past)) in
    let o = one_other c (base + k) ne in
    let t = times_named base count k cs ss m.1 lt in
    omega (arith, o, t)
times_named base count k (c ∷ cs) (Some f ∷ ss) m lt =
    let same : one_at c (base + k) ≡ one_at f.number k = ap (λ x. one_at x (base + k)) m.0 ∙ one_lower base f.number k in
    let t = times_named base count k cs ss m.2 lt in
    omega (arith, same, t)

-- no frame past the last was forwarded
pub times_past : (base count k : ℕ) (cs : List ℕ) (ss : List (Option Frame)) → Named base count cs ss → count ≤ k → times k (numbers_in ss) ≡ 0
times_past base count k [] [] m le = refl
times_past base count k [] (s ∷ ss) m le = absurd m
times_past base count k (c ∷ cs) [] m le = absurd m
times_past base count k (c ∷ cs) (None ∷ ss) m le = times_past base count k cs ss m.1 le
times_past base count k (c ∷ cs) (Some f ∷ ss) m le =
    let inside = m.1 in
    let o = one_other f.number k (λ e. omega (arith, e, inside, le)) in
    let t = times_past base count k cs ss m.2 le in
    omega (arith, o, t)

-- where there are more claims than frames one names none
pub some_last : (base count : ℕ) (cs : List ℕ) (ss : List (Option Frame)) → Named base count cs ss → length (frames_in ss) < length cs
    → (c : ℕ) × (0 < times c cs) × (base ≤ c → base + count ≤ c)
some_last base count [] ss m lt = absurd (omega (arith, lt))
some_last base count (c ∷ cs) [] m lt = absurd m
some_last base count (c ∷ cs) (None ∷ ss) m lt = (c, times_head c cs, m.0)
some_last base count (c ∷ cs) (Some f ∷ ss) m lt =
    let more = some_last base count cs ss m.2 (omega (arith, lt)) in
    (more.0, times_tail more.0 c cs more.1, more.2)

-- ---- a list that has each number below n once is of length n

abbrev sum_below : ℕ → List ℕ → ℕ
sum_below zero xs = 0
sum_below (suc n) xs = times n xs + sum_below n xs

all_ones : (n : ℕ) (xs : List ℕ) → ((k : ℕ) → k < n → times k xs ≡ 1) → sum_below n xs ≡ n
all_ones zero xs once = refl
all_ones (suc n) xs once =
    let o = once n (omega arith) in
    let a = all_ones n xs (λ k lt. once k (omega (arith, lt))) in
    omega (arith, o, a)

abbrev here : ℕ → ℕ → ℕ
here zero x = 0
here (suc n) x = one_at x n + here n x

here_past : (n x : ℕ) → n ≤ x → here n x ≡ 0
here_past zero x le = refl
here_past (suc n) x le =
    let o = one_other x n (λ e. omega (arith, e, le)) in
    let h = here_past n x (omega (arith, le)) in
    omega (arith, o, h)

here_below : (n x : ℕ) → x < n → here n x ≡ 1
here_below zero x lt = absurd (omega (arith, lt))
here_below (suc n) x lt = dite (ℕ_discrete x n)
    (λ e. (let o = one_same x n e in let h = here_past n x (omega (arith, e)) in omega (arith, o, h)))
    (λ ne. (let o = one_other x n ne in let h = here_below n x (omega (arith, lt, ne)) in omega (arith, o, h)))

sum_cons : (n x : ℕ) (xs : List ℕ) → sum_below n (x ∷ xs) ≡ here n x + sum_below n xs
sum_cons zero x xs = refl
sum_cons (suc n) x xs = (let s = sum_cons n x xs in omega (arith, s))

less : (x n : ℕ) → (n ≤ x → ⊥) → x < n
less x n f = dite (ℕ_discrete (n - x) 0) (λ e. absurd (f (omega (arith, e)))) (λ ne. omega (arith, ne))

all_counted : (n : ℕ) (xs : List ℕ) → ((k : ℕ) → n ≤ k → times k xs ≡ 0) → sum_below n xs ≡ length xs
all_counted n [] none = none_at n
  where
    none_at : (n : ℕ) → sum_below n [] ≡ 0
    none_at zero = refl
    none_at (suc n) = (let a = none_at n in omega (arith, a))
all_counted n (x ∷ xs) none =
    let lt : x < n = less x n (λ le. (let z = none x le in let h = times_head x xs in omega (arith, z, h))) in
    let s = sum_cons n x xs in
    let b = here_below n x lt in
    let a = all_counted n xs (λ k le. (let z = none k le in omega (arith, z))) in
    omega (arith, s, b, a)

pub once_is_all : (n : ℕ) (xs : List ℕ) → ((k : ℕ) → k < n → times k xs ≡ 1) → ((k : ℕ) → n ≤ k → times k xs ≡ 0) → length xs ≡ n
once_is_all n xs once none = sym (all_counted n xs none) ∙ all_ones n xs once

-- ---- the claims of a round

pub drawn_once : (xs : List ℕ) (k : ℕ) → IsDrawnOnce xs → k < length xs → times k xs ≡ 1
drawn_once xs k drawn lt = drawn k ∙ below_one k (length xs) lt

pub drawn_none : (xs : List ℕ) (k : ℕ) → IsDrawnOnce xs → length xs ≤ k → times k xs ≡ 0
drawn_none xs k drawn le = drawn k ∙ past_none k (length xs) le

-- the new claims are the numbers from the base on, each once
pub drawn_later : (old new : List ℕ) (k : ℕ) → IsDrawnOnce old → IsDrawnOnce (old ++ new) → length old ≤ k → k < length old + length new → times k new ≡ 1
drawn_later old new k a b le lt =
    let t = times_append k old new in
    let n = drawn_none old k a le in
    let l = length-append old new in
    let o = drawn_once (old ++ new) k b (omega (arith, lt, l)) in
    omega (arith, t, n, o)

pub drawn_within : (old new : List ℕ) (k : ℕ) → IsDrawnOnce old → IsDrawnOnce (old ++ new) → 0 < times k new → (length old ≤ k) × (k < length old + length new)
drawn_within old new k a b some =
    let t = times_append k old new in
    let l = length-append old new in (
      not_less k (length old) (λ lt. (let x = drawn_once old k a lt in let y = drawn_once (old ++ new) k b (omega (arith, lt, l)) in omega (arith, t, x, y, some))),
      less k (length old + length new) (λ le. (let y = drawn_none (old ++ new) k b (omega (arith, le, l)) in omega (arith, t, y, some))),
    )
  where
    not_less : (m n : ℕ) → (m < n → ⊥) → n ≤ m
    not_less m n f = dite (ℕ_discrete (n - m) 0) (λ e. omega (arith, e)) (λ ne. absurd (f (omega (arith, ne))))

-- each frame was forwarded once, and there is one claim a frame and one more a worker
pub record IsEachOnce (count n : ℕ) (cs : List ℕ) (ss : List (Option Frame)) : Type 0 where
  pub once : (k : ℕ) → k < count → times k (numbers_in ss) ≡ 1
  pub none : (k : ℕ) → count ≤ k → times k (numbers_in ss) ≡ 0
  pub claims : length cs ≡ count + n

pub each_once : (count n : ℕ) (old new : List ℕ) (ss : List (Option Frame)) → IsDrawnOnce old → IsDrawnOnce (old ++ new) → Named (length old) count new ss → length new ≡ length (frames_in ss) + n → 0 < n
    → IsEachOnce count n new ss
each_once count n old new ss a b m lasts some =
    let base : ℕ = length old in
    let last = some_last base count new ss m (omega (arith, lasts, some)) in
    let within = drawn_within old new last.0 a b last.1 in
    let past = last.2 within.0 in
    let before = within.1 in
    let enough : base + count < base + length new = omega (arith, past, before) in
    let once : (k : ℕ) → k < count → times k (numbers_in ss) ≡ 1 = λ k lt. sym (times_named base count k new ss m lt) ∙ drawn_later old new (base + k) a b (omega arith) (omega (arith, lt, enough)) in
    let none : (k : ℕ) → count ≤ k → times k (numbers_in ss) ≡ 0 = λ k le. times_past base count k new ss m le in
    let numbers = length_numbers ss in
    let all = once_is_all count (numbers_in ss) once none in
    record {
      once = once;
      none = none;
      claims = omega (arith, lasts, numbers, all);
    }
