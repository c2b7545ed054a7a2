-- A packet that is sent on is of the same flow.
use Rattle.std.proofs.Common.{◌≡◌, ◌≤◌, ◌+◌, ◌-◌, ◌*◌, ◌%◌, ◌/◌, ◌∷◌, ◌++◌, [], ℕ, zero, suc, List, length, arith, refl, ◌∙◌, ap, ap₂, Bool, true, false}
use Rattle.std.specs.Prelude.{slice_index, cond}
use Rattle.std.proofs.lemmas.Bool.Decides.{nat_tests}
use Rattle.fib_capture.specs.FlowHash.{flow_hash}
use Rattle.fib_capture.specs.Captures.{big_16, big_32, ipv4_packet_of, ports_of, has_ports, header_length, is_header, flow_of}
use Rattle.fib_capture.specs.declared.packet.Packet.TheVariants as packets
use Rattle.fib_rewrite.specs.Sent.{hopped, checksum_after, FlowsStay}
use Rattle.fib_rewrite.proofs.Staying.{by_twelve, hopped_is}

far : (xs ys rest : List ℕ) (n : ℕ) → length xs ≡ length ys → length xs ≤ n → slice_index (xs ++ rest) n ≡ slice_index (ys ++ rest) n
far [] [] rest n same le = refl
far [] (y ∷ ys) rest n same le = absurd (omega (arith, same))
far (x ∷ xs) [] rest n same le = absurd (omega (arith, same))
far (x ∷ xs) (y ∷ ys) rest zero same le = absurd (omega (arith, le))
far (x ∷ xs) (y ∷ ys) rest (suc n) same le = far xs ys rest n (omega (arith, same)) (omega (arith, le))

module _ (a b c d e f g h i j x y s k l : ℕ) (rest : List ℕ) where
  abbrev New : List ℕ
  New = a ∷ b ∷ c ∷ d ∷ e ∷ f ∷ g ∷ h ∷ i ∷ j ∷ x ∷ y ∷ rest

  abbrev Old : List ℕ
  Old = a ∷ b ∷ c ∷ d ∷ e ∷ f ∷ g ∷ h ∷ s ∷ j ∷ k ∷ l ∷ rest

  beyond : (n : ℕ) → 12 ≤ n → slice_index New n ≡ slice_index Old n
  beyond n le = far (a ∷ b ∷ c ∷ d ∷ e ∷ f ∷ g ∷ h ∷ i ∷ j ∷ x ∷ y ∷ []) (a ∷ b ∷ c ∷ d ∷ e ∷ f ∷ g ∷ h ∷ s ∷ j ∷ k ∷ l ∷ []) rest n refl (omega (arith, le))

  word : (n : ℕ) → 12 ≤ n → big_16 New n ≡ big_16 Old n
  word n le = ap₂ (λ p q. p * 256 + q) (beyond n le) (beyond (n + 1) (omega (arith, le)))

  ports : 12 ≤ 4 * (a % 16) → ports_of New ≡ ports_of Old
  unfolding ports_of
  ports le = by (has_ports New)
    where
      pair : ℕ → ℕ → ℕ × ℕ
      pair p q = (p, q)

      by : (t : Bool) → cond t (pair (big_16 New (header_length New)) (big_16 New (header_length New + 2))) (pair 0 0) ≡ cond t (pair (big_16 Old (header_length Old)) (big_16 Old (header_length Old + 2))) (pair 0 0)
      by true = ap₂ pair (word (4 * (a % 16)) le) (word (4 * (a % 16) + 2) (omega (arith, le)))
      by false = refl

  pub same_flow : ipv4_packet_of New ≡ ipv4_packet_of Old
  unfolding ipv4_packet_of
  same_flow = by (is_header New) refl
    where
      by : (t : Bool) → is_header New ≡ t → cond t (flow_of New) packets.BadHeader ≡ cond t (flow_of Old) packets.BadHeader
      by false is = refl
      by true is = ap (λ (p : ℕ × ℕ). packets.Flow (big_32 New 16) (flow_hash (big_32 New 12) (big_32 New 16) j p.0 p.1)) (ports (grind (arith, nat_tests)))

pub flows : FlowsStay
flows packet is small = by_twelve (λ p. ipv4_packet_of (hopped p) ≡ ipv4_packet_of p) packet (let t = is.0 in omega arith)
    (λ a b c d e f g h i j k l rest.
    ap ipv4_packet_of (hopped_is a b c d e f g h i j k l rest)
    ∙ same_flow a b c d e f g h (i - 1) j (checksum_after (k * 256 + l) / 256 % 256) (checksum_after (k * 256 + l) % 256) i k l rest)
