-- Blocks of addresses, and the leaf pushing.
use Rattle.std.proofs.Common.{◌≡◌, ℕ, zero, suc, ◌+◌, ◌*◌, ◌-◌, ◌/◌, ◌%◌, ◌^◌, ◌<◌, ◌≤◌, Option, Some, None, refl, sym, ap, ◌∙◌, subst, arith}
use Rattle.std.proofs.lemmas.Nat.{shr-shr}
use Rattle.std.proofs.Math.Nat.{div-one}
use Rattle.fib_ply.specs.Prefixes.{Look, Needs}
use Rattle.fib_core_promise.specs.Matches.{or_else, best_block}
use Rattle.fib_core_steady.specs.Names.{IsBelow}

none_of : (o : Option ℕ) (d : Option ℕ) → ((p : ℕ) → o ≡ Some p → ⊥) → or_else o d ≡ d
none_of None d h = refl
none_of (Some p) d h = absurd (h p refl)

half : (b j : ℕ) → b / 2 / 2 ^ j ≡ b / 2 ^ (j + 1)
half b j = shr-shr b 1 j ∙ ap (λ k. b / 2 ^ k) (let e : 1 + j ≡ j + 1 = omega arith in e)

half_suc : (b j : ℕ) → b / 2 / 2 ^ j ≡ b / 2 ^ suc j
half_suc b j = half b j ∙ ap (λ k. b / 2 ^ k) (let e : j + 1 ≡ suc j = omega arith in e)

best_block-suc : (look : Look) (n b : ℕ) → best_block look (suc n) b ≡ or_else (look (suc n) b) (best_block look n (b / 2))
unfolding best_block
best_block-suc look n b = refl

-- a block without a longer prefix has one answer
pub pushed : (look : Look) (d j b : ℕ) → 4 * d + j ≤ 32 → (Needs look d (b / 2 ^ j) → ⊥) → best_block look (4 * d + j) b ≡ best_block look (4 * d) (b / 2 ^ j)
pushed look d zero b le free = let e : 4 * d + 0 ≡ 4 * d = omega arith in rw e (ap (best_block look (4 * d)) (sym (div-one b)))
pushed look d (suc j) b le free =
    let e : 4 * d + suc j ≡ suc (4 * d + j) = omega arith in
    let f : 4 * d + j + 1 ≡ suc (4 * d + j) = omega arith in
    let le' : 4 * d + j ≤ 32 = omega arith in
    let le'' : 4 * d + j + 1 ≤ 32 = omega arith in
    let none : (p : ℕ) → look (suc (4 * d + j)) b ≡ Some p → ⊥ = λ p is. free (j, b, p, le'', ap (λ k. b / 2 ^ k) (let g : j + 1 ≡ suc j = omega arith in g), ap (λ k. look k b) f ∙ is) in
    let free' : Needs look d (b / 2 / 2 ^ j) → ⊥ = subst (λ (v : ℕ). Needs look d v → ⊥) (sym (half_suc b j)) free in
    rw e (best_block-suc look (4 * d + j) b ∙ none_of (look (suc (4 * d + j)) b) (best_block look (4 * d + j) (b / 2)) none ∙ pushed look d j (b / 2) le' free' ∙ ap (best_block look (4 * d)) (half_suc b j))

-- the same, of an address
pub pushed_at : (look : Look) (d w a : ℕ) → d ≤ 8 → IsBelow a d w → (Needs look d w → ⊥) → best_block look 32 a ≡ best_block look (4 * d) w
pushed_at look d w a le below free =
    let e : 4 * d + (32 - 4 * d) ≡ 32 = omega arith in
    let le' : 4 * d + (32 - 4 * d) ≤ 32 = omega arith in
    ap (λ n. best_block look n a) (sym e) ∙ pushed look d (32 - 4 * d) a le' (subst (λ (v : ℕ). Needs look d v → ⊥) (sym below) free) ∙ ap (best_block look (4 * d)) below

-- the block of the address one nibble further on
pub deeper : (a d k : ℕ) → d + suc k ≡ 8 → (32 - 4 * (d + 1) ≡ 4 * k) × (32 - 4 * d ≡ 4 * k + 4)
deeper a d k e = (omega arith, omega arith)

nibble_step : (b c s : ℕ) → b / 16 ≡ c → b % 16 ≡ s → b ≡ 16 * c + s
nibble_step b c s e f = omega arith

pub below_next : (a d k w : ℕ) → d + suc k ≡ 8 → IsBelow a d w → IsBelow a (d + 1) (16 * w + a / 2 ^ (4 * k) % 16)
below_next a d k w e below =
    let x : 32 - 4 * (d + 1) ≡ 4 * k = omega arith in
    let y : 32 - 4 * d ≡ 4 * k + 4 = omega arith in
    let up : a / 2 ^ (4 * k) / 16 ≡ w = shr-shr a (4 * k) 4 ∙ ap (λ i. a / 2 ^ i) (sym y) ∙ below in
    ap (λ i. a / 2 ^ i) x ∙ nibble_step (a / 2 ^ (4 * k)) w (a / 2 ^ (4 * k) % 16) up refl

low_nibble : (w s : ℕ) → s < 16 → (16 * w + s) / 16 ≡ w
low_nibble w s lt = omega arith

pub below_up : (a d w s : ℕ) → d ≤ 7 → s < 16 → IsBelow a (d + 1) (16 * w + s) → IsBelow a d w
below_up a d w s le lt below =
    let x : 32 - 4 * d ≡ (32 - 4 * (d + 1)) + 4 = omega arith in
    ap (λ i. a / 2 ^ i) x ∙ sym (shr-shr a (32 - 4 * (d + 1)) 4) ∙ ap (λ v. v / 16) below ∙ low_nibble w s lt
