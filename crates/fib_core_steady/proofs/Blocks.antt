-- Blocks of addresses by nibbles.
use Rattle.std.proofs.Common.{◌≡◌, ℕ, ◌+◌, ◌*◌, ◌-◌, ◌/◌, ◌%◌, ◌^◌, ◌<◌, ◌≤◌, refl, sym, ap, ◌∙◌, arith}
use Rattle.std.proofs.lemmas.Nat.{shr-shr}
use Rattle.fib_addr.specs.Prefixes.{nibble}
use Rattle.fib_core_steady.specs.Names.{IsBelow}

nibble_step : (b c s : ℕ) → b / 16 ≡ c → b % 16 ≡ s → b ≡ 16 * c + s
nibble_step b c s e f = omega arith

-- the block of the address one nibble further on
pub below_next : (a d w : ℕ) → d ≤ 7 → IsBelow a d w → IsBelow a (d + 1) (16 * w + nibble a d)
below_next a d w le below =
    let x : 32 - 4 * (d + 1) ≡ 28 - 4 * d = omega arith in
    let y : 32 - 4 * d ≡ 28 - 4 * d + 4 = omega arith in
    let up : a / 2 ^ (28 - 4 * d) / 16 ≡ w = shr-shr a (28 - 4 * d) 4 ∙ ap (λ i. a / 2 ^ i) (sym y) ∙ below in
    ap (λ i. a / 2 ^ i) x ∙ nibble_step (a / 2 ^ (28 - 4 * d)) w (nibble a d) up refl

pub below_all : (a : ℕ) → a < 2 ^ 32 → IsBelow a 0 0
below_all a fits = omega arith

pub nibble_small : (a d : ℕ) → nibble a d < 16
nibble_small a d = omega arith
