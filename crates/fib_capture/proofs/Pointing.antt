-- A span points to the bytes of its flow.
use Rattle.std.proofs.Common.{arith, ◌≡◌, ℕ, zero, suc, ◌+◌, ◌-◌, ◌≤◌, ◌&&◌, Bool, true, false, List, [], ◌∷◌, length, take, drop, map, Option, ◌⊎◌, inl, inr, Some, None, Result, Ok, Err, refl, sym, ◌∙◌, ap, subst, length-drop}
use Rattle.std.specs.Prelude.{slice_get, slice_index, nat_lt, nat_le, cond, ◌==◌, ◌/◌}
use Rattle.std.proofs.lemmas.Bool.{ltb-false}
use Rattle.std.proofs.lemmas.List.{drop-take, drop-drop, length-take-le}
use Rattle.fib_capture.specs.Captures.{big_16, number_at, record_of, frames_of, packet_of, ipv4_packet_of, header_of, capture_of, capture_after, records_of, Capture}
use Rattle.fib_capture.specs.Spans.{Span, link_length, span_of, span_of_packet, spans_from, spans_after, spans_of, SpansPointToFlows}
use Rattle.fib_capture.specs.declared.packet.Order.{Order}
use Rattle.fib_capture.specs.declared.packet.Link.{Link}
use Rattle.fib_capture.specs.declared.packet.Link.TheVariants.{Ethernet, Raw}
use Rattle.fib_capture.specs.declared.packet.CaptureError.{CaptureError}
use Rattle.fib_capture.specs.declared.packet.Packet.{Packet}
use Rattle.fib_capture.specs.declared.packet.Packet.TheVariants as packets
use Rattle.fib_capture.proofs.Records.{record_none, record_shorter, frames_of_some, frames_of_none}
use Rattle.fib_capture.proofs.Spanning.{flow_long}

-- the parts of a record by its bytes
record Parts (bytes : List ℕ) (r : List ℕ × List ℕ) : Type 0 where
  size : ℕ
  room : 16 + size ≤ length bytes
  front : r.0 ≡ take size (drop 16 bytes)
  back : r.1 ≡ drop (16 + size) bytes

parts_if : (b c : Bool) (x r : List ℕ × List ℕ) → ◌≡◌ {A = Option (List ℕ × List ℕ)} (cond b None (cond c None (Some x))) (Some r) → (c ≡ false) × (x ≡ r)
parts_if true c x r h = absurd (let e = h in cc)
parts_if false true x r h = absurd (let e = h in cc)
parts_if false false x r h = (refl, cc)

parts_of : (order : Order) (bytes : List ℕ) (r : List ℕ × List ℕ) → record_of order bytes ≡ Some r → Parts bytes r
unfolding record_of
parts_of order bytes r e =
    let n = number_at order bytes 8 in
    let both = parts_if (nat_lt (length bytes) 16) (nat_lt (length bytes) (16 + n)) (take n (drop 16 bytes), drop (16 + n) bytes) r e in
    record {
      size = n;
      room = ltb-false (length bytes) (16 + n) both.0;
      front = sym (ap (λ (x : List ℕ × List ℕ). x.0) both.1);
      back = sym (ap (λ (x : List ℕ × List ℕ). x.1) both.1);
    }

flow_if : (b : Bool) (p : Packet) (addr hash : ℕ) → cond b p packets.NotIpv4 ≡ packets.Flow addr hash → cond b p packets.NotIpv4 ≡ p
flow_if true p addr hash h = refl
flow_if false p addr hash h = absurd (let e = h in cc)

-- a flow is what its bytes behind the link's are
flow_at : (link : Link) (frame : List ℕ) (addr hash : ℕ) → packet_of link frame ≡ packets.Flow addr hash → packet_of link frame ≡ ipv4_packet_of (drop (link_length link) frame)
unfolding packet_of
flow_at Ethernet frame addr hash is = flow_if (nat_le 14 (length frame) && big_16 frame 12 == 0x0800) (ipv4_packet_of (drop 14 frame)) addr hash is
flow_at Raw frame addr hash is = flow_if (nat_le 1 (length frame) && slice_index frame 0 / 16 == 4) (ipv4_packet_of frame) addr hash is

-- where a packet has a span, it is a flow, and that is its span
record IsFlow (p : Packet) (span s : ℕ × ℕ) : Type 0 where
  addr : ℕ
  hash : ℕ
  flow : p ≡ packets.Flow addr hash
  same : span ≡ s

flow_of_span : (p : Packet) (span s : ℕ × ℕ) → span_of_packet p span ≡ Some s → IsFlow p span s
flow_of_span (packets.Flow addr hash) span s h = record { addr = addr; hash = hash; flow = refl; same = cc }
flow_of_span packets.NotIpv4 span s h = absurd (let e = h in cc)
flow_of_span packets.BadHeader span s h = absurd (let e = h in cc)

-- the bytes of a span of the first record
first_bytes : (bytes rest frame : List ℕ) (off size l : ℕ) → rest ≡ drop off bytes → frame ≡ take size (drop 16 rest) → length frame ≡ size → l ≤ length frame → take (length frame - l) (drop (off + 16 + l) bytes) ≡ drop l frame
first_bytes bytes rest frame off size l r f n le =
    let at : drop (off + 16 + l) bytes ≡ drop l (drop 16 rest) = sym (drop-drop l (off + 16) bytes) ∙ ap (drop l) (sym (drop-drop 16 off bytes) ∙ ap (drop 16) (sym r)) in
    let parts : l + (length frame - l) ≡ size = omega (arith, n, le) in
    ap (take (length frame - l)) at ∙ (sym (drop-take l (length frame - l) (drop 16 rest)) ∙ (ap (λ (k : ℕ). drop l (take k (drop 16 rest))) parts ∙ ap (drop l) (sym f)))

point : (link : Link) (bytes rest frame : List ℕ) (off size at n : ℕ) → rest ≡ drop off bytes → frame ≡ take size (drop 16 rest) → length frame ≡ size
    → span_of link (off + 16) frame ≡ Some (at, n) → packet_of link frame ≡ ipv4_packet_of (take n (drop at bytes))
unfolding span_of
point link bytes rest frame off size at n r f len h =
    let flow = flow_of_span (packet_of link frame) (off + 16 + link_length link, length frame - link_length link) (at, n) h in
    let long = flow_long link frame (packet_of link frame) flow.addr flow.hash refl flow.flow in
    let place : off + 16 + link_length link ≡ at = ap (λ (x : ℕ × ℕ). x.0) flow.same in
    let count : length frame - link_length link ≡ n = ap (λ (x : ℕ × ℕ). x.1) flow.same in
    flow_at link frame flow.addr flow.hash flow.flow
    ∙ ap ipv4_packet_of (sym (first_bytes bytes rest frame off size (link_length link) r f len long)
    ∙ (ap (λ (k : ℕ). take k (drop (off + 16 + link_length link) bytes)) count ∙ ap (λ (k : ℕ). take n (drop k bytes)) place))

look : (o : Option (List ℕ × List ℕ)) → (o ≡ None) ⊎ ((x : List ℕ × List ℕ) × (o ≡ Some x))
look None = inl refl
look (Some x) = inr (x, refl)

-- the k-th span points to the k-th packet, of the records that begin there
abbrev Points : Link → ℕ → List ℕ → List (List ℕ) → Type 0
Points link off bytes frames =
    (k at n : ℕ) → slice_get (spans_from link off frames) k ≡ Some (Some (at, n)) → slice_get (map (packet_of link) frames) k ≡ Some (ipv4_packet_of (take n (drop at bytes)))

points_none : (link : Link) (off : ℕ) (bytes : List ℕ) → Points link off bytes []
unfolding spans_from
points_none link off bytes k at n h = absurd (let e = h in cc)

points_more : (link : Link) (off : ℕ) (bytes rest frame : List ℕ) (frames : List (List ℕ)) (size : ℕ) → rest ≡ drop off bytes → frame ≡ take size (drop 16 rest) → length frame ≡ size
    → Points link (off + 16 + length frame) bytes frames → Points link off bytes (frame ∷ frames)
unfolding spans_from
points_more link off bytes rest frame frames size r f len more zero at n h = ap (λ (p : Packet). Some p) (point link bytes rest frame off size at n r f len (let e = h in cc))
points_more link off bytes rest frame frames size r f len more (suc k) at n h = more k at n h

points : (most : ℕ) (order : Order) (link : Link) (off : ℕ) (bytes rest : List ℕ) → length rest ≤ most → rest ≡ drop off bytes → Points link off bytes (frames_of order rest)
points zero order link off bytes rest le r =
    subst (λ (fs : List (List ℕ)). Points link off bytes fs) (sym (frames_of_none order rest (record_none order rest (omega (arith, le))))) (points_none link off bytes)
points (suc most) order link off bytes rest le r =
    elim (look (record_of order rest)) [
      | inl none ↦ subst (λ (fs : List (List ℕ)). Points link off bytes fs) (sym (frames_of_none order rest none)) (points_none link off bytes)
      | inr some ↦
          let x = some.0 in
          let p = parts_of order rest x some.1 in
          let enough : p.size ≤ length (drop 16 rest) = omega (arith, length-drop 16 rest, p.room) in
          let len : length x.0 ≡ p.size = ap length p.front ∙ length-take-le p.size (drop 16 rest) enough in
          let on : x.1 ≡ drop (off + 16 + length x.0) bytes =
          p.back ∙ (ap (drop (16 + p.size)) r ∙ (drop-drop (16 + p.size) off bytes ∙ (let n : off + (16 + p.size) ≡ off + 16 + length x.0 = omega (arith, len) in ap (λ (k : ℕ). drop k bytes) n))) in
          let shorter = record_shorter order rest x some.1 in
          subst (λ (fs : List (List ℕ)). Points link off bytes fs) (sym (frames_of_some order rest x some.1))
          (points_more link off bytes rest x.0 (frames_of order x.1) p.size r p.front len
          (points most order link (off + 16 + length x.0) bytes x.1 (omega (arith, shorter, le)) on))
    ]

by_header : (bytes : List ℕ) (header : Result (Order × Link) CaptureError) (spans : List Span) (c : Capture) → spans_after bytes header ≡ Ok spans → capture_after bytes header ≡ Ok c
    → (k at n : ℕ) → slice_get spans k ≡ Some (Some (at, n)) → slice_get c.packets k ≡ Some (ipv4_packet_of (take n (drop at bytes)))
unfolding records_of
by_header bytes (Err e) spans c s h k at n g = absurd (let f = s in cc)
by_header bytes (Ok x) spans c s h k at n g =
    let all : spans_from x.1 24 (frames_of x.0 (drop 24 bytes)) ≡ spans = cc in
    let read : records_of x.0 x.1 (drop 24 bytes) ≡ c = cc in
    ap (λ (r : Capture). slice_get r.packets k) (sym read)
    ∙ points (length (drop 24 bytes)) x.0 x.1 24 bytes (drop 24 bytes) (omega arith) refl k at n (ap (λ (ss : List Span). slice_get ss k) all ∙ g)

pub spans_point : SpansPointToFlows
unfolding spans_of capture_of
spans_point bytes spans c s h k at n g = by_header bytes (header_of bytes) spans c s h k at n g
