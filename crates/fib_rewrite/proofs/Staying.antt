-- What stays of a packet with one hop less to live.
use Rattle.std.proofs.Common.{◌≡◌, ◌≤◌, ◌<◌, ◌+◌, ◌-◌, ◌*◌, ◌%◌, ◌/◌, ◌^◌, ◌∷◌, ◌++◌, [], ℕ, List, length, arith, refl, ◌∙◌, ap, inl, inr}
use Rattle.std.specs.Prelude.{slice_index, nat_lt, cond, ◌⊎◌, Bool, true, false}
use Rattle.std.proofs.lemmas.Bool.{ltb-false, ltb-true}
use Rattle.fib_capture.specs.FlowHash.{two_bytes}
use Rattle.fib_capture.specs.Captures.{big_16}
use Rattle.fib_rewrite.specs.Sent.{hopped, checksum_after, header_sum, HeaderSumsStay, IsPacket}

-- a list of twelve bytes at least is these and others
abbrev pub Twelve : (List ℕ → Type 0) → Type 0
Twelve P = (a b c d e f g h i j k l : ℕ) (rest : List ℕ) → P (a ∷ b ∷ c ∷ d ∷ e ∷ f ∷ g ∷ h ∷ i ∷ j ∷ k ∷ l ∷ rest)

pub by_twelve : (P : List ℕ → Type 0) (xs : List ℕ) → 12 ≤ length xs → Twelve P → P xs
by_twelve P (a ∷ b ∷ c ∷ d ∷ e ∷ f ∷ g ∷ h ∷ i ∷ j ∷ k ∷ l ∷ rest) long p = p a b c d e f g h i j k l rest
by_twelve P [] long p = absurd (omega arith)
by_twelve P (a ∷ []) long p = absurd (omega arith)
by_twelve P (a ∷ b ∷ []) long p = absurd (omega arith)
by_twelve P (a ∷ b ∷ c ∷ []) long p = absurd (omega arith)
by_twelve P (a ∷ b ∷ c ∷ d ∷ []) long p = absurd (omega arith)
by_twelve P (a ∷ b ∷ c ∷ d ∷ e ∷ []) long p = absurd (omega arith)
by_twelve P (a ∷ b ∷ c ∷ d ∷ e ∷ f ∷ []) long p = absurd (omega arith)
by_twelve P (a ∷ b ∷ c ∷ d ∷ e ∷ f ∷ g ∷ []) long p = absurd (omega arith)
by_twelve P (a ∷ b ∷ c ∷ d ∷ e ∷ f ∷ g ∷ h ∷ []) long p = absurd (omega arith)
by_twelve P (a ∷ b ∷ c ∷ d ∷ e ∷ f ∷ g ∷ h ∷ i ∷ []) long p = absurd (omega arith)
by_twelve P (a ∷ b ∷ c ∷ d ∷ e ∷ f ∷ g ∷ h ∷ i ∷ j ∷ []) long p = absurd (omega arith)
by_twelve P (a ∷ b ∷ c ∷ d ∷ e ∷ f ∷ g ∷ h ∷ i ∷ j ∷ k ∷ []) long p = absurd (omega arith)

-- the checksum in two bytes
one_of : (c : ℕ) → c < 65536 → ((checksum_after c ≡ c + 256) × (c + 256 < 65535)) ⊎ (checksum_after c + 65535 ≡ c + 256)
one_of c lt = if_lt (nat_lt (c + 256) 65535) (c + 256) 65535 refl
  where
    if_lt : (b : Bool) (n m : ℕ) → nat_lt n m ≡ b → ((cond b n (n - m) ≡ n) × (n < m)) ⊎ (cond b n (n - m) + m ≡ n)
    if_lt true n m is = inl (refl, ltb-true n m is)
    if_lt false n m is = let le = ltb-false n m is in inr (omega arith)

joined_bytes : (n : ℕ) → n < 65536 → n / 2 ^ 8 % 256 * 256 + n % 256 ≡ n
joined_bytes n lt = omega arith

sums : (x y w c d r s : ℕ) → 256 ≤ w → c < 65536 → d ≡ checksum_after c → r ≡ x + (w - 256) + d + y → s ≡ x + w + c + y → r % 65535 ≡ s % 65535
sums x y w c d r s big lt is new old = by_case (one_of c lt)
  where
    by_case : ((checksum_after c ≡ c + 256) × (c + 256 < 65535)) ⊎ (checksum_after c + 65535 ≡ c + 256) → r % 65535 ≡ s % 65535
    by_case (inl p) = let e : r ≡ s = omega (arith, p.0) in ap (λ n. n % 65535) e
    by_case (inr p) = let e : s ≡ r + 65535 = omega (arith, p) in omega arith

pub hopped_is : (a b c d e f g h i j k l : ℕ) (rest : List ℕ)
    → hopped (a ∷ b ∷ c ∷ d ∷ e ∷ f ∷ g ∷ h ∷ i ∷ j ∷ k ∷ l ∷ rest) ≡ a ∷ b ∷ c ∷ d ∷ e ∷ f ∷ g ∷ h ∷ (i - 1) ∷ j ∷ two_bytes (checksum_after (k * 256 + l)) ++ rest
unfolding hopped
hopped_is a b c d e f g h i j k l rest = refl

less : (i j : ℕ) → 1 < i → (i - 1) * 256 + j ≡ (i * 256 + j) - 256
less i j lt = omega arith

pub sums_stay : HeaderSumsStay
sums_stay packet is small = by_twelve (λ p. IsPacket p → ((n : ℕ) → slice_index p n < 256) → header_sum (hopped p) % 65535 ≡ header_sum p % 65535) packet (let l = is.0 in omega arith)
    (λ a b c d e f g h i j k l rest is small.
    let c0 = k * 256 + l in
    let kl = small 10 in
    let ll = small 11 in
    let lt : c0 < 65536 = omega (arith, kl, ll) in
    let d0 = checksum_after c0 in
    let jl = joined_bytes d0 (below c0 lt) in
    ap (λ p. header_sum p % 65535) (hopped_is a b c d e f g h i j k l rest)
    ∙ sums (a * 256 + b + (c * 256 + d) + (e * 256 + f) + (g * 256 + h)) (big_16 rest 0 + big_16 rest 2 + big_16 rest 4 + big_16 rest 6) (i * 256 + j) c0 d0 _ _
    (let t = is.1 in omega arith) lt refl (let t = is.1 in omega (arith, jl, less i j t)) (omega arith)) is small
  where
    below : (c : ℕ) → c < 65536 → checksum_after c < 65536
    below c lt = by_case (one_of c lt)
      where
        by_case : ((checksum_after c ≡ c + 256) × (c + 256 < 65535)) ⊎ (checksum_after c + 65535 ≡ c + 256) → checksum_after c < 65536
        by_case (inl p) = omega (arith, p.0, p.1)
        by_case (inr p) = omega (arith, p)
