-- A packet that is sent on.
use Rattle.std.proofs.Common.{◌≡◌, ◌≤◌, ◌+◌, ◌-◌, ◌∷◌, ◌++◌, [], ℕ, List, length, take, drop, arith, length-drop, ◌∙◌, ap, sym, append_assoc}
use Rattle.std.specs.Prelude.{slice_index}
use Rattle.std.proofs.lemmas.List.{length-take, length-append}
use Rattle.fib_capture.specs.FlowHash.{two_bytes}
use Rattle.fib_capture.specs.Captures.{big_16}
use Rattle.fib_capture.specs.Written.{written, record_bytes}
use Rattle.fib_capture.specs.declared.packet.Order.TheVariants.{Little}
use Rattle.fib_rewrite.specs.Sent.{hopped, checksum_after, mac_bytes, source_bytes, sent_bytes, sent_record}

pub length_hopped : (packet : List ℕ) → 20 ≤ length packet → length (hopped packet) ≡ length packet
unfolding hopped
length_hopped packet long =
    let e = length-append (take 8 packet) ((slice_index packet 8 - 1) ∷ slice_index packet 9 ∷ two_bytes (checksum_after (big_16 packet 10)) ++ drop 12 packet) in
    omega (arith, e, length-drop 12 packet, length-take 8 packet)

pub length_sent : (packet : List ℕ) (interface mac : ℕ) → 20 ≤ length packet → length (sent_bytes packet interface mac) ≡ length packet + 14
unfolding sent_bytes
length_sent packet interface mac long = let e = length_hopped packet long in omega (arith, e)

-- the parts of a record, one after the other
pub record_is : (old one two three packet : List ℕ) (interface mac size : ℕ) → 20 ≤ length packet → size ≡ length packet + 14
    → one ≡ old ++ (written Little 0 ++ (written Little 0 ++ (written Little size ++ written Little size)))
    → two ≡ one ++ (mac_bytes mac ++ (source_bytes interface ++ (8 ∷ 0 ∷ []))) → three ≡ two ++ hopped packet
    → three ≡ old ++ sent_record packet interface mac
unfolding sent_record record_bytes sent_bytes
record_is old one two three packet interface mac size long is first second third =
    let header = written Little 0 ++ (written Little 0 ++ (written Little size ++ written Little size)) in
    let link = mac_bytes mac ++ (source_bytes interface ++ (8 ∷ 0 ∷ [])) in
    let same : size ≡ length (sent_bytes packet interface mac) = is ∙ sym (length_sent packet interface mac long) in
    third ∙ (ap (λ xs. xs ++ hopped packet) (second ∙ ap (λ xs. xs ++ link) first)
    ∙ (append_assoc (old ++ header) link (hopped packet)
    ∙ (append_assoc old header (link ++ hopped packet)
    ∙ ap (λ (n : ℕ). old ++ (written Little 0 ++ (written Little 0 ++ (written Little n ++ (written Little n ++ sent_bytes packet interface mac))))) same)))
