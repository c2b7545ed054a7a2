-- Bits of two words.
use Rattle.std.proofs.Common.{◌≡◌, ℕ, zero, suc, ◌+◌, ◌-◌, ◌*◌, ◌/◌, ◌%◌, ◌^◌, ◌<◌, ◌≤◌, ◌||◌, Bool, true, false, true≢false, eq-eqb, ne_eqb, refl, sym, ap, ◌∙◌, arith}
use Rattle.std.specs.Int.{w128}
use mathlib.Core.Logic.{dite}
use native.Mathlib.Decide.{ℕ_discrete}
use Rattle.std.specs.Prelude.{max, nat_lt, bit_or, bit_and, ◌==◌, if◌then◌else◌}
use Rattle.std.proofs.lemmas.Bool.Decides.{nat_tests}
use Rattle.std.specs.Int.{bit_at, trailing_zeros}
use Rattle.std.proofs.lemmas.Nat.Bits.{bit_at-zero, bit_at_or, bit_at-lt, shr_and_one, bit_at_set_same, bit_at_set_other, bit_at-trailing_zeros, same_from_bits_below}
use Rattle.fib_urpf.specs.declared.interfaces.Interfaces.{Interfaces}
use Rattle.fib_urpf.specs.Interfaces.{has}

pub none_has : (i : ℕ) → has (record { low = 0; high = 0 }) i ≡ false
none_has i = by_half (nat_lt i 128)
  where
    by_half : (b : Bool) → (if b then bit_at 0 i == 1 else bit_at 0 (i - 128) == 1) ≡ false
    by_half true = ap (λ n. n == 1) (bit_at-zero i)
    by_half false = ap (λ n. n == 1) (bit_at-zero (i - 128))

or_bit : (a b : ℕ) → a < 2 → b < 2 → (max a b == 1) ≡ (a == 1) || (b == 1)
or_bit zero zero p q = refl
or_bit zero (suc zero) p q = refl
or_bit (suc zero) zero p q = refl
or_bit (suc zero) (suc zero) p q = refl
or_bit zero (suc (suc b)) p q = absurd (omega arith)
or_bit (suc zero) (suc (suc b)) p q = absurd (omega arith)
or_bit (suc (suc a)) b p q = absurd (omega arith)

or_at : (a b i : ℕ) → (bit_at (bit_or a b) i == 1) ≡ (bit_at a i == 1) || (bit_at b i == 1)
or_at a b i = ap (λ n. n == 1) (bit_at_or a b i) ∙ or_bit (bit_at a i) (bit_at b i) (bit_at-lt a i) (bit_at-lt b i)

pub both_has : (s t : Interfaces) (i : ℕ) → has (record { low = bit_or s.low t.low; high = bit_or s.high t.high }) i ≡ has s i || has t i
both_has s t i = by_half (nat_lt i 128)
  where
    by_half : (b : Bool) → (if b then bit_at (bit_or s.low t.low) i == 1 else bit_at (bit_or s.high t.high) (i - 128) == 1)
        ≡ (if b then bit_at s.low i == 1 else bit_at s.high (i - 128) == 1) || (if b then bit_at t.low i == 1 else bit_at t.high (i - 128) == 1)
    by_half true = or_at s.low t.low i
    by_half false = or_at s.high t.high (i - 128)

below_half : (i : ℕ) → i < 128 → nat_lt i 128 ≡ true
below_half i lt = grind (arith, nat_tests)

above_half : (i : ℕ) → 128 ≤ i → nat_lt i 128 ≡ false
above_half i le = grind (arith, nat_tests)

pick_low : {A : Type 0} (x y : A) (i : ℕ) → i < 128 → (if nat_lt i 128 then x else y) ≡ x
pick_low x y i lt = ap (λ b. if b then x else y) (below_half i lt)

pick_high : {A : Type 0} (x y : A) (i : ℕ) → 128 ≤ i → (if nat_lt i 128 then x else y) ≡ y
pick_high x y i le = ap (λ b. if b then x else y) (above_half i le)

pub low_has : (s : Interfaces) (i : ℕ) → i < 128 → (bit_and (s.low / 2 ^ i) 1 == 1) ≡ has s i
low_has s i lt = ap (λ n. n == 1) (shr_and_one s.low i) ∙ sym (pick_low (bit_at s.low i == 1) (bit_at s.high (i - 128) == 1) i lt)

pub high_has : (s : Interfaces) (i : ℕ) → 128 ≤ i → (bit_and (s.high / 2 ^ (i - 128)) 1 == 1) ≡ has s i
high_has s i le = ap (λ n. n == 1) (shr_and_one s.high (i - 128)) ∙ sym (pick_high (bit_at s.low i == 1) (bit_at s.high (i - 128) == 1) i le)

-- the bits of 1 << k
set_bit : (k i : ℕ) → k < 128 → (bit_at (1 * 2 ^ k % 340282366920938463463374607431768211456) i == 1) ≡ (k == i)
set_bit k i lt = dite (ℕ_discrete i k)
    (λ e. ap (λ j. bit_at (1 * 2 ^ k % 340282366920938463463374607431768211456) j == 1) e ∙ ap (λ n. n == 1) (bit_at_set_same w128 0 k lt) ∙ sym (eq-eqb k i (sym e)))
    (λ ne. ap (λ n. n == 1) (bit_at_set_other w128 0 k lt i ne ∙ bit_at-zero i) ∙ sym (ne_eqb k i (λ e. ne (sym e))))

none_bit : (i : ℕ) → (bit_at 0 i == 1) ≡ false
none_bit i = ap (λ n. n == 1) (bit_at-zero i)

apart_low : (k i : ℕ) → k < 128 → nat_lt i 128 ≡ false → false ≡ (k == i)
apart_low k i p q = grind (arith, nat_tests)

apart_high : (k i : ℕ) → 128 ≤ k → nat_lt i 128 ≡ true → false ≡ (k == i)
apart_high k i p q = grind (arith, nat_tests)

shifted : (k i : ℕ) → 128 ≤ k → nat_lt i 128 ≡ false → (k - 128 == i - 128) ≡ (k == i)
shifted k i p q = grind (arith, nat_tests)

pub one_low : (k : ℕ) → k < 128 → (i : ℕ) → has (record { low = 1 * 2 ^ k % 340282366920938463463374607431768211456; high = 0 }) i ≡ (k == i)
one_low k lt i = by_half (nat_lt i 128) refl
  where
    by_half : (b : Bool) → nat_lt i 128 ≡ b → (if b then bit_at (1 * 2 ^ k % 340282366920938463463374607431768211456) i == 1 else bit_at 0 (i - 128) == 1) ≡ (k == i)
    by_half true is = set_bit k i lt
    by_half false is = none_bit (i - 128) ∙ apart_low k i lt is

pub one_high : (k : ℕ) → 128 ≤ k → k < 256 → (i : ℕ) → has (record { low = 0; high = 1 * 2 ^ (k - 128) % 340282366920938463463374607431768211456 }) i ≡ (k == i)
one_high k le lt i = by_half (nat_lt i 128) refl
  where
    by_half : (b : Bool) → nat_lt i 128 ≡ b → (if b then bit_at 0 i == 1 else bit_at (1 * 2 ^ (k - 128) % 340282366920938463463374607431768211456) (i - 128) == 1) ≡ (k == i)
    by_half true is = none_bit i ∙ apart_high k i le is
    by_half false is = set_bit (k - 128) (i - 128) (omega arith) ∙ shifted k i le is

-- a word that isn't 0 has a bit
some_bit : (n : ℕ) → (n ≡ 0 → ⊥) → n < 2 ^ 128 → (i : ℕ) × (i < 128) × (bit_at n i ≡ 1)
some_bit n ne lt = let t = bit_at-trailing_zeros w128 n (omega (arith, ne)) lt in (trailing_zeros w128 n, t.0, t.1)

pub some_low : (s : Interfaces) → s.low < 2 ^ 128 → (s.low ≡ 0 → ⊥) → (i : ℕ) × (i < 256) × (has s i ≡ true)
some_low s lt ne = let b = some_bit s.low ne lt in
    (b.0, (let l = b.1 in omega arith), pick_low (bit_at s.low b.0 == 1) (bit_at s.high (b.0 - 128) == 1) b.0 b.1 ∙ ap (λ n. n == 1) b.2)

pub some_high : (s : Interfaces) → s.high < 2 ^ 128 → (s.high ≡ 0 → ⊥) → (i : ℕ) × (i < 256) × (has s i ≡ true)
some_high s lt ne = let b = some_bit s.high ne lt in
    let back : b.0 + 128 - 128 ≡ b.0 = omega arith in
    (b.0 + 128, (let l = b.1 in omega arith), pick_high (bit_at s.low (b.0 + 128) == 1) (bit_at s.high (b.0 + 128 - 128) == 1) (b.0 + 128) (omega arith) ∙ ap (λ i. bit_at s.high i == 1) back ∙ ap (λ n. n == 1) b.2)

one_is : (m n : ℕ) → m < 2 → n < 2 → (m == 1) ≡ (n == 1) → m ≡ n
one_is m n p q e = grind (arith, nat_tests)

-- what has the same members is the same
pub same_members : (s t : Interfaces) → s.low < 2 ^ 128 → s.high < 2 ^ 128 → t.low < 2 ^ 128 → t.high < 2 ^ 128 → ((i : ℕ) → i < 256 → has s i ≡ has t i) → s ≡ t
same_members s t a b c d h =
    let low = same_from_bits_below 128 s.low t.low a c (λ i lt. one_is (bit_at s.low i) (bit_at t.low i) (bit_at-lt s.low i) (bit_at-lt t.low i)
    (sym (pick_low (bit_at s.low i == 1) (bit_at s.high (i - 128) == 1) i lt) ∙ h i (omega arith) ∙ pick_low (bit_at t.low i == 1) (bit_at t.high (i - 128) == 1) i lt)) in
    let high = same_from_bits_below 128 s.high t.high b d (λ i lt. one_is (bit_at s.high i) (bit_at t.high i) (bit_at-lt s.high i) (bit_at-lt t.high i)
    (let back : i + 128 - 128 ≡ i = omega arith in
    ap (λ j. bit_at s.high j == 1) (sym back) ∙ sym (pick_high (bit_at s.low (i + 128) == 1) (bit_at s.high (i + 128 - 128) == 1) (i + 128) (omega arith))
    ∙ h (i + 128) (omega arith) ∙ pick_high (bit_at t.low (i + 128) == 1) (bit_at t.high (i + 128 - 128) == 1) (i + 128) (omega arith) ∙ ap (λ j. bit_at t.high j == 1) back)) in
    λ i. record { low = low i; high = high i }

pub other_low : (s t : Interfaces) → (s.low ≡ t.low → ⊥) → s ≡ t → ⊥
other_low s t ne e = ne (ap (λ (x : Interfaces). x.low) e)

pub other_high : (s t : Interfaces) → (s.high == t.high) ≡ false → s ≡ t → ⊥
other_high s t ne e = (let same = ap (λ (x : Interfaces). x.high) e in let is = eq-eqb s.high t.high same in true≢false (sym is ∙ ne))
