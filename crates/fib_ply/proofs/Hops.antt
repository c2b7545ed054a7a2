-- Hops of a walk over the cells of a view.
use Rattle.std.proofs.Common.{◌≡◌, ℕ, zero, suc, ◌+◌, ◌*◌, ◌-◌, ◌/◌, ◌%◌, ◌^◌, ◌<◌, ◌≤◌, refl, sym, ap, ◌∙◌, arith}
use Rattle.std.proofs.lemmas.Bool.Decides.{nat_tests}
use Rattle.std.proofs.lemmas.Nat.{mod_below, shr-shr}
use Rattle.fib_addr.specs.Prefixes.{nibble}
use Rattle.fib_core.specs.declared.word.Word.{Word}
use Rattle.fib_core.specs.declared.word.Word.TheVariants.{ToPly}
use Rattle.fib_core.specs.Walk.{Place, ply, from_ply}
use Rattle.fib_core_steady.specs.Names.{IsBelow}
use Rattle.fib_ply.specs.Hops.{hopped, hops}

-- a hop from a ply asks its cell for the address's bits
pub from_here : (cell : ℕ → ℕ → Word) (a h x d s : ℕ) → a / 2 ^ (28 - 4 * d) % 16 ≡ s → hopped cell a h (ply x d) ≡ from_ply d (cell x s)
from_here cell a h x d s is =
    let less : nibble a d < 16 = mod_below (a / 2 ^ (28 - 4 * d)) 16 (omega arith) in
    let own : (16 * x + nibble a d) % 16 ≡ nibble a d = omega (arith, less) in
    ap (λ i. from_ply d (cell x i)) (own ∙ is)

-- there are plies at the depths 0 to 7
pub goes_down : (d c : ℕ) → d < 7 → from_ply d (ToPly c) ≡ ply c (suc d)
goes_down d c lt = grind (arith, nat_tests)

pub hops-suc : (cell : ℕ → ℕ → Word) (a h n : ℕ) (p : Place) → hops cell a h (suc n) p ≡ hopped cell a h (hops cell a h n p)
hops-suc cell a h zero p = refl
hops-suc cell a h (suc n) p = hops-suc cell a h n (hopped cell a h p)

-- an address of the block v of the next depth
pub in_block : (a d v : ℕ) → d ≤ 7 → IsBelow a (suc d) v → IsBelow a d (v / 16) × (a / 2 ^ (28 - 4 * d) % 16 ≡ v % 16)
in_block a d v le below =
    let same : 32 - 4 * suc d ≡ 28 - 4 * d = omega arith in
    let at : a / 2 ^ (28 - 4 * d) ≡ v = ap (λ i. a / 2 ^ i) (sym same) ∙ below in
    let up : 28 - 4 * d + 4 ≡ 32 - 4 * d = omega arith in
    (ap (λ i. a / 2 ^ i) (sym up) ∙ sym (shr-shr a (28 - 4 * d) 4) ∙ ap (λ i. i / 16) at, ap (λ i. i % 16) at)
