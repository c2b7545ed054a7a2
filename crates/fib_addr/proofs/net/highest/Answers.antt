use Rattle.std.proofs.Common.{arith, ◌≡◌, ℕ, ◌+◌, ◌-◌, ◌*◌, ◌/◌, ◌%◌, ◌^◌, ◌<◌, ◌≤◌, inl, inr, refl}
use Rattle.std.proofs.lemmas.Grind.{one_shifted}
use Rattle.std.proofs.lemmas.Bool.{cases_lt}
use Rattle.std.proofs.Math.Nat.{mul-le-mul_left}
use Rattle.std.proofs.Math.Pow.{pow_pos, pow-add}
use Rattle.fib_addr.proofs.net.highest.Goals as goal

-- a multiple of s below s * t is a step below it
below : (b s t : ℕ) → 0 < s → b % s ≡ 0 → b < s * t → b + s ≤ s * t
below b s t pos cleared short =
    elim (cases_lt (b / s) t) [
      | inl lt ↦ (let step : s * (b / s + 1) ≤ s * t = mul-le-mul_left s (omega (arith, lt)) in omega (arith, step))
      | inr le ↦ (let step : s * t ≤ s * (b / s) = mul-le-mul_left s le in absurd (omega (arith, step)))
    ]

pub overflow_cast-result : goal.overflow_cast-result
overflow_cast-result c =
    let len = c.args.len in
    let whole : 2 ^ (32 - len) * 2 ^ len ≡ 2 ^ 32 = let sum : 32 - len + len ≡ 32 = omega arith in rw (← pow-add, sum) refl in
    let e : 1 * 2 ^ (32 - len) % 18446744073709551616 ≡ 2 ^ (32 - len) = (one_shifted (32 - len) 18446744073709551615 refl (omega arith)).0 in
    let bound = below c.args.bits (2 ^ (32 - len)) (2 ^ len) (pow_pos (32 - len)) c.requires.cleared (omega (arith, whole, c.requires.fits)) in
    omega (arith, e, whole, bound)
