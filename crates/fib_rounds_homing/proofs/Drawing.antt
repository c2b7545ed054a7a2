-- What is said of parts that claims name, each once, counts as often as in all parts one after the other.
use Rattle.std.proofs.Common.{◌≡◌, ℕ, zero, suc, ◌+◌, ◌-◌, ◌*◌, ◌<◌, ◌≤◌, Bool, true, false, eqb, eq-eqb, ne_eqb, List, [], ◌∷◌, ◌++◌, length, length-append, refl, sym, ap, ◌∙◌, subst, arith}
use Rattle.std.proofs.lemmas.Bool.Decides.{nat_tests}
use Rattle.std.specs.Prelude.{nat_lt, slice_index_or, if◌then◌else◌}
use Rattle.std.specs.Prelude.{map}
use Rattle.std.proofs.lemmas.List.{map-append}
use Rattle.fib_core_lawful.specs.Claims.{times}
use Rattle.fib_core_lawful.proofs.Claiming.{times_append}
use Rattle.fib_worker_crew.specs.Claims.{IsDrawnOnce}
use Rattle.fib_rounds_homing.specs.Homes.{claimed}
use Rattle.fib_rounds_homing.specs.Places.{joined}

-- sums over a list, and over the numbers from base on, so many
abbrev sum_over : (ℕ → ℕ) → List ℕ → ℕ
sum_over g [] = 0
sum_over g (x ∷ xs) = g x + sum_over g xs

abbrev sum_from : (ℕ → ℕ) → ℕ → ℕ → ℕ
sum_from g base zero = 0
sum_from g base (suc n) = g base + sum_from g (suc base) n

-- each number as often as it stands in the list
weighed : (ℕ → ℕ) → List ℕ → ℕ → ℕ → ℕ
weighed g xs base zero = 0
weighed g xs base (suc n) = times base xs * g base + weighed g xs (suc base) n

weighed_none : (g : ℕ → ℕ) (base n : ℕ) → weighed g [] base n ≡ 0
unfolding weighed
weighed_none g base zero = refl
weighed_none g base (suc n) = let r = weighed_none g (suc base) n in omega arith

-- one more
unit : ℕ → ℕ → ℕ
unit x n = if eqb x n then 1 else 0

none_more : (t a b : ℕ) → ((0 + t) * a) + b ≡ (t * a) + b
none_more t a b = let e : 0 + t ≡ t = omega arith in ap (λ k. (k * a) + b) e

weighed_past : (g : ℕ → ℕ) (x : ℕ) (xs : List ℕ) (base n : ℕ) → x < base → weighed g (x ∷ xs) base n ≡ weighed g xs base n
unfolding weighed
weighed_past g x xs base zero lt = refl
weighed_past g x xs base (suc n) lt =
    let r = weighed_past g x xs (suc base) n (omega arith) in
    let zero_here : (if eqb x base then 1 else 0) ≡ 0 = ap (λ b. if b then 1 else 0) (ne_eqb x base (λ e. absurd (omega arith))) in
    ap (λ k. ((k + times base xs) * g base) + weighed g (x ∷ xs) (suc base) n) zero_here ∙ none_more (times base xs) (g base) (weighed g (x ∷ xs) (suc base) n) ∙ ap (λ k. (times base xs * g base) + k) r

first : (t a w : ℕ) → ((1 + t) * a) + w ≡ a + ((t * a) + w)
first t a w = grind arith

next : (a b c : ℕ) → a + (b + c) ≡ b + (a + c)
next a b c = omega arith

weighed_more : (g : ℕ → ℕ) (x : ℕ) (xs : List ℕ) (base n : ℕ) → base ≤ x → x < base + n → weighed g (x ∷ xs) base n ≡ g x + weighed g xs base n
unfolding weighed
weighed_more g x xs base zero low high = absurd (omega arith)
weighed_more g x xs base (suc n) low high = by_eq (eqb x base) refl (λ lt. weighed_more g x xs (suc base) n lt (omega arith))
  where
    by_eq : (b : Bool) → eqb x base ≡ b → (suc base ≤ x → weighed g (x ∷ xs) (suc base) n ≡ g x + weighed g xs (suc base) n)
        → (((if eqb x base then 1 else 0) + times base xs) * g base) + weighed g (x ∷ xs) (suc base) n ≡ g x + ((times base xs * g base) + weighed g xs (suc base) n)
    by_eq true is more =
        let same : x ≡ base = grind (arith, nat_tests) in
        let r = weighed_past g x xs (suc base) n (omega arith) in
        let one : (if eqb x base then 1 else 0) ≡ 1 = ap (λ b. if b then 1 else 0) is in
        ap (λ k. ((k + times base xs) * g base) + weighed g (x ∷ xs) (suc base) n) one ∙ ap (λ k. ((1 + times base xs) * g base) + k) r
        ∙ first (times base xs) (g base) (weighed g xs (suc base) n) ∙ ap (λ k. g k + ((times base xs * g base) + weighed g xs (suc base) n)) (sym same)
    by_eq false is more =
        let other : base < x = grind (arith, nat_tests) in
        let none_here : (if eqb x base then 1 else 0) ≡ 0 = ap (λ b. if b then 1 else 0) is in
        ap (λ k. ((k + times base xs) * g base) + weighed g (x ∷ xs) (suc base) n) none_here ∙ none_more (times base xs) (g base) (weighed g (x ∷ xs) (suc base) n)
        ∙ ap (λ k. (times base xs * g base) + k) (more other)
        ∙ next (times base xs * g base) (g x) (weighed g xs (suc base) n)

Within : ℕ → ℕ → List ℕ → Type 0
Within base n xs = (x : ℕ) → 0 < times x xs → (base ≤ x) × (x < base + n)

sum_weighed : (g : ℕ → ℕ) (xs : List ℕ) (base n : ℕ) → Within base n xs → sum_over g xs ≡ weighed g xs base n
unfolding Within
sum_weighed g [] base n h = sym (weighed_none g base n)
sum_weighed g (x ∷ xs) base n h =
    let one : ◌≡◌ {A = ℕ} (if eqb x x then 1 else 0) 1 = ap (λ b. if b then 1 else 0) (eq-eqb x x refl) in
    let here = h x (omega (arith, one)) in
    ap (λ k. g x + k) (sum_weighed g xs base n (λ y lt. h y (omega (arith, lt)))) ∙ sym (weighed_more g x xs base n here.0 here.1)

once_each : (g : ℕ → ℕ) (xs : List ℕ) (base n : ℕ) → ((x : ℕ) → base ≤ x → x < base + n → times x xs ≡ 1) → weighed g xs base n ≡ sum_from g base n
unfolding weighed
once_each g xs base zero h = refl
once_each g xs base (suc n) h =
    let here = h base (omega arith) (omega arith) in
    ap (λ k. (k * g base) + weighed g xs (suc base) n) here ∙ ap (λ k. (1 * g base) + k) (once_each g xs (suc base) n (λ x low high. h x (omega arith) (omega arith))) ∙ plain (g base) (sum_from g (suc base) n)
  where
    plain : (a b : ℕ) → (1 * a) + b ≡ a + b
    plain a b = omega arith

-- the numbers drawn after others: those from their count on
new_times : (old new : List ℕ) → IsDrawnOnce old → IsDrawnOnce (old ++ new) → (x : ℕ) → times x new ≡ (if nat_lt x (length old + length new) then 1 else 0) - (if nat_lt x (length old) then 1 else 0)
new_times old new a b x =
    let p = a x in
    let q = sym (times_append x old new) ∙ b x ∙ ap (λ n. if nat_lt x n then 1 else 0) (length-append old new) in
    less (times x old) (times x new) (if nat_lt x (length old) then 1 else 0) (if nat_lt x (length old + length new) then 1 else 0) p q
  where
    less : (a b c d : ℕ) → a ≡ c → a + b ≡ d → b ≡ d - c
    less a b c d p q = omega arith

new_in : (x a b : ℕ) → 0 < (if nat_lt x (a + b) then 1 else 0) - (if nat_lt x a then 1 else 0) → (a ≤ x) × (x < a + b)
new_in x a b h = by_two (nat_lt x (a + b)) (nat_lt x a) refl refl
  where
    by_two : (c d : Bool) → nat_lt x (a + b) ≡ c → nat_lt x a ≡ d → (a ≤ x) × (x < a + b)
    by_two true true p q = absurd (let hh : 0 < (1 - 1) = subst (λ (k : Bool × Bool). 0 < (if k.0 then 1 else 0) - (if k.1 then 1 else 0)) (λ i. (p i, q i)) h in omega (arith, hh))
    by_two true false p q = (grind (arith, nat_tests), grind (arith, nat_tests))
    by_two false d p q = absurd (let hh : 0 < (0 - (if nat_lt x a then 1 else 0)) = subst (λ (k : Bool). 0 < (if k then 1 else 0) - (if nat_lt x a then 1 else 0)) p h in omega (arith, hh))

new_one : (x a b : ℕ) → a ≤ x → x < a + b → (if nat_lt x (a + b) then 1 else 0) - (if nat_lt x a then 1 else 0) ≡ 1
new_one x a b low high = grind (arith, nat_tests)

pub drawn_sum : (g : ℕ → ℕ) (old new : List ℕ) → IsDrawnOnce old → IsDrawnOnce (old ++ new) → sum_over g new ≡ sum_from g (length old) (length new)
unfolding Within
drawn_sum g old new a b =
    sum_weighed g new (length old) (length new) (λ x lt. new_in x (length old) (length new) (subst (λ n. 0 < n) (new_times old new a b x) lt))
    ∙ once_each g new (length old) (length new) (λ x low high. new_times old new a b x ∙ new_one x (length old) (length new) low high)

-- ---- the parts, of whose elements f tells a number

module _ {A : Type 0} (f : A → ℕ) (w : ℕ) where
  counts_append : (xs ys : List A) → times w (map f (xs ++ ys)) ≡ times w (map f xs) + times w (map f ys)
  counts_append xs ys = ap (times w) (map-append f xs ys) ∙ times_append w (map f xs) (map f ys)

  part_times : List (List A) → ℕ → ℕ → ℕ
  part_times parts base claim = times w (map f (slice_index_or parts (claim - base) []))

  claimed_sum : (parts : List (List A)) (base : ℕ) (claims : List ℕ) → times w (map f (claimed base parts claims)) ≡ sum_over (part_times parts base) claims
  unfolding part_times
  claimed_sum parts base [] = refl
  claimed_sum parts base (c ∷ claims) =
      counts_append (slice_index_or parts (c - base) []) (claimed base parts claims)
      ∙ ap (λ k. times w (map f (slice_index_or parts (c - base) [])) + k) (claimed_sum parts base claims)

  sum_none : (base at n : ℕ) → sum_from (part_times [] base) at n ≡ 0
  unfolding part_times
  sum_none base at zero = refl
  sum_none base at (suc n) = let r = sum_none base (suc at) n in omega arith

  sum_shift : (part : List A) (parts : List (List A)) (base at n : ℕ) → base ≤ at → sum_from (part_times (part ∷ parts) base) (suc at) n ≡ sum_from (part_times parts base) at n
  unfolding part_times
  sum_shift part parts base at zero le = refl
  sum_shift part parts base at (suc n) le =
      let less : suc at - base ≡ suc (at - base) = omega arith in
      let r = sum_shift part parts base (suc at) n (omega arith) in
      ap (λ k. times w (map f (slice_index_or (part ∷ parts) k [])) + sum_from (λ c. times w (map f (slice_index_or (part ∷ parts) (c - base) []))) (suc (suc at)) n) less
      ∙ ap (λ k. times w (map f (slice_index_or parts (at - base) [])) + k) r

  no_parts : (parts : List (List A)) → ((n : ℕ) → slice_index_or parts n [] ≡ []) → times w (map f (joined parts)) ≡ 0
  no_parts [] h = refl
  no_parts (part ∷ parts) h =
      counts_append part (joined parts) ∙ ap (λ p. times w (map f p) + times w (map f (joined parts))) (h 0) ∙ ap (λ k. 0 + k) (no_parts parts (λ n. h (suc n)))

  parts_sum : (parts : List (List A)) (base n : ℕ) → ((m : ℕ) → n ≤ m → slice_index_or parts m [] ≡ []) → sum_from (part_times parts base) base n ≡ times w (map f (joined parts))
  unfolding part_times
  parts_sum [] base n none = sum_none base base n
  parts_sum (part ∷ parts) base zero none = sym (no_parts (part ∷ parts) (λ m. none m (omega arith)))
  parts_sum (part ∷ parts) base (suc n) none =
      let first : base - base ≡ 0 = omega arith in
      ap (λ k. times w (map f (slice_index_or (part ∷ parts) k [])) + sum_from (λ c. times w (map f (slice_index_or (part ∷ parts) (c - base) []))) (suc base) n) first
      ∙ ap (λ k. times w (map f part) + k) (sum_shift part parts base base n (omega arith) ∙ parts_sum parts base n (λ m le. none (suc m) (omega arith)))
      ∙ sym (counts_append part (joined parts))

  -- claims that are drawn once after others name each part once
  pub drawn_counts : (parts : List (List A)) (old new : List ℕ) → IsDrawnOnce old → IsDrawnOnce (old ++ new) → ((m : ℕ) → length new ≤ m → slice_index_or parts m [] ≡ [])
      → times w (map f (claimed (length old) parts new)) ≡ times w (map f (joined parts))
  drawn_counts parts old new a b none =
      claimed_sum parts (length old) new ∙ drawn_sum (part_times parts (length old)) old new a b ∙ parts_sum parts (length old) (length new) none
