-- Spans lie in their file.
use Rattle.std.proofs.Common.{◌≡◌, ◌≤◌, ◌+◌, ◌-◌, ◌&&◌, ℕ, zero, suc, Bool, true, false, List, Option, Some, None, Result, Ok, Err, length, drop, refl, sym, subst, arith, length-drop}
use Rattle.std.specs.Prelude.{cond, nat_le, ◌==◌, ◌/◌, slice_index}
use Rattle.std.specs.List.{AllByRecursion}
use Rattle.std.proofs.lemmas.Bool.Decides.{nat_tests}
use Rattle.fib_capture.specs.Captures.{record_of, frames_of, packet_of, ipv4_packet_of, header_of, is_header, flow_of, big_16}
use Rattle.fib_capture.specs.Spans.{link_length, span_of, span_of_packet, spans_from, spans_after, spans_of, IsInside, SpansLieInFile}
use Rattle.fib_capture.specs.declared.packet.Order.{Order}
use Rattle.fib_capture.specs.declared.packet.Link.{Link}
use Rattle.fib_capture.specs.declared.packet.Link.TheVariants.{Ethernet, Raw}
use Rattle.fib_capture.specs.declared.packet.CaptureError.{CaptureError}
use Rattle.fib_capture.specs.declared.packet.Packet.{Packet}
use Rattle.fib_capture.specs.declared.packet.Packet.TheVariants as packets
use Rattle.fib_capture.proofs.Records.{frames_of_some, frames_of_none}
use Rattle.fib_capture.proofs.Spanning.{record_lengths}

-- a flow's bytes from its IPv4 header on are twenty at least
header_long : (header : List ℕ) (a h : ℕ) → ipv4_packet_of header ≡ packets.Flow a h → 20 ≤ length header
unfolding ipv4_packet_of
header_long header a h is = by (is_header header) refl is
  where
    by : (b : Bool) → is_header header ≡ b → cond b (flow_of header) packets.BadHeader ≡ packets.Flow a h → 20 ≤ length header
    by false e f = absurd (let g = f in cc)
    by true e f = grind (arith, nat_tests)

flow_twenty : (link : Link) (frame : List ℕ) (a h : ℕ) → packet_of link frame ≡ packets.Flow a h → link_length link + 20 ≤ length frame
unfolding packet_of
flow_twenty Ethernet frame a h is = by (nat_le 14 (length frame) && (big_16 frame 12 == 0x0800)) is
  where
    by : (b : Bool) → cond b (ipv4_packet_of (drop 14 frame)) packets.NotIpv4 ≡ packets.Flow a h → 14 + 20 ≤ length frame
    by false f = absurd (let g = f in cc)
    by true f = let l = header_long (drop 14 frame) a h f in omega (arith, l, length-drop 14 frame)
flow_twenty Raw frame a h is = by (nat_le 1 (length frame) && (slice_index frame 0 / 16 == 4)) is
  where
    by : (b : Bool) → cond b (ipv4_packet_of frame) packets.NotIpv4 ≡ packets.Flow a h → 0 + 20 ≤ length frame
    by false f = absurd (let g = f in cc)
    by true f = let l = header_long frame a h f in omega (arith, l)

span_in : (link : Link) (start size : ℕ) (frame : List ℕ) → start + length frame ≤ size → IsInside size (span_of link start frame)
unfolding span_of
span_in link start size frame le = by (packet_of link frame) refl
  where
    by : (p : Packet) → packet_of link frame ≡ p → IsInside size (span_of_packet p (start + link_length link, length frame - link_length link))
    by (packets.Flow a h) is = let l = flow_twenty link frame a h is in (omega (arith, l, le), omega (arith, l))
    by packets.NotIpv4 is = tt
    by packets.BadHeader is = tt

spans_in : (n : ℕ) (order : Order) (link : Link) (at size : ℕ) (rest : List ℕ) (r : Option (List ℕ × List ℕ)) → record_of order rest ≡ r → length rest ≤ n → at + length rest ≤ size
    → AllByRecursion (IsInside size) (spans_from link at (frames_of order rest))
unfolding spans_from
spans_in n order link at size rest None is few le = subst (λ fs. AllByRecursion (IsInside size) (spans_from link at fs)) (sym (frames_of_none order rest is)) tt
spans_in zero order link at size rest (Some r) is few le = absurd (let l = record_lengths order rest r is in omega (arith, l, few))
spans_in (suc n) order link at size rest (Some r) is few le =
    let l = record_lengths order rest r is in
    subst (λ fs. AllByRecursion (IsInside size) (spans_from link at fs)) (sym (frames_of_some order rest r is))
    (span_in link (at + 16) size r.0 (omega (arith, l, le)), spans_in n order link (at + 16 + length r.0) size r.1 (record_of order r.1) refl (omega (arith, l, few)) (omega (arith, l, le)))

header_24 : (bytes : List ℕ) (h : Order × Link) → header_of bytes ≡ Ok h → 24 ≤ length bytes
unfolding header_of
header_24 bytes h same = grind (arith, nat_tests)

pub spans_lie : SpansLieInFile
unfolding spans_of
spans_lie bytes spans is = by (header_of bytes) refl is
  where
    by : (h : Result (Order × Link) CaptureError) → header_of bytes ≡ h → spans_after bytes h ≡ Ok spans → AllByRecursion (IsInside (length bytes)) spans
    by (Err e) same f = absurd (let g = f in cc)
    by (Ok h) same f =
        let rest : List ℕ = drop 24 bytes in
        let long = header_24 bytes h same in
        let here : spans_from h.1 24 (frames_of h.0 rest) ≡ spans = let g = f in cc in
        subst (AllByRecursion (IsInside (length bytes))) here (spans_in (length rest) h.0 h.1 24 (length bytes) rest (record_of h.0 rest) refl (omega arith) (omega (arith, long, length-drop 24 bytes)))
