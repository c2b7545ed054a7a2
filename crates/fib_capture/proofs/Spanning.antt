-- The reader of spans.
use Rattle.std.proofs.Common.{◌≡◌, ◌∷◌, ◌++◌, ◌∙◌, [], ℕ, ◌+◌, ◌-◌, ◌≤◌, List, length, take, drop, Some, None, Ok, ap, sym, append_assoc, arith, length-drop}
use Rattle.std.proofs.lemmas.Bool.Decides.{nat_tests}
use Rattle.std.proofs.lemmas.List.{append-nil, length-take-le, take_rest}
use Rattle.fib_capture.specs.Captures.{record_of, frames_of, packet_of, header_of}
use Rattle.fib_capture.specs.Spans.{Span, link_length, span_of, spans_from, spans_after, spans_of}
use Rattle.fib_capture.specs.declared.packet.Order.{Order}
use Rattle.fib_capture.specs.declared.packet.Link.{Link}
use Rattle.fib_capture.specs.declared.packet.Link.TheVariants.{Ethernet, Raw}
use Rattle.fib_capture.specs.declared.packet.Packet.{Packet}
use Rattle.fib_capture.specs.declared.packet.Packet.TheVariants as packets
use Rattle.fib_capture.proofs.Records.{frames_of_some, frames_of_none}

-- a flow's frame has the bytes before its IPv4 header
pub flow_long : (link : Link) (frame : List ℕ) (p : Packet) (addr hash : ℕ) → p ≡ packet_of link frame → p ≡ packets.Flow addr hash → link_length link ≤ length frame
unfolding packet_of
flow_long Ethernet frame p addr hash e is = grind (arith, nat_tests)
flow_long Raw frame p addr hash e is = omega arith

-- the lengths of a record's parts
pub record_lengths : (order : Order) (bytes : List ℕ) (r : List ℕ × List ℕ) → record_of order bytes ≡ Some r → 16 + length r.0 + length r.1 ≡ length bytes
unfolding record_of
record_lengths order bytes r e = grind (arith, nat_tests, length-drop {A = ℕ}, length-take-le {A = ℕ})

step_of : (link : Link) (at : ℕ) (order : Order) (rest frame after : List ℕ) → record_of order rest ≡ Some (frame, after) → spans_from link at (frames_of order rest) ≡ span_of link (at + 16) frame ∷ spans_from link (at + 16 + length frame) (frames_of order after)
unfolding spans_from
step_of link at order rest frame after e = ap (spans_from link at) (frames_of_some order rest (frame, after) e)

-- a span goes over from what is left to what is read
pub one_span_more : (order : Order) (link : Link) (at : ℕ) (told before : List Span) (rest frame after : List ℕ) (all : List Span) (s : Span) → before ++ spans_from link at (frames_of order rest) ≡ all → told ≡ before ++ s ∷ [] → record_of order rest ≡ Some (frame, after) → s ≡ span_of link (at + 16) frame → told ++ spans_from link (at + 16 + length frame) (frames_of order after) ≡ all
one_span_more order link at told before rest frame after all s h t e is =
    rw (t, append_assoc, is) (ap (λ (ss : List Span). before ++ ss) (sym (step_of link at order rest frame after e)) ∙ h)

none_left : (link : Link) (at : ℕ) (order : Order) (rest : List ℕ) → record_of order rest ≡ None → spans_from link at (frames_of order rest) ≡ []
unfolding spans_from
none_left link at order rest e = ap (spans_from link at) (frames_of_none order rest e)

-- no record is left
pub all_spans_read : (order : Order) (link : Link) (at : ℕ) (spans all : List Span) (rest : List ℕ) → spans ++ spans_from link at (frames_of order rest) ≡ all → record_of order rest ≡ None → spans ≡ all
all_spans_read order link at spans all rest told none =
    sym (append-nil spans) ∙ ap (λ (ss : List Span). spans ++ ss) (sym (none_left link at order rest none)) ∙ told

-- the file header, and the bytes after it in the code's form
pub spans_of_file : (bytes : List ℕ) (order : Order) (link : Link) (spans : List Span) → header_of bytes ≡ Ok (order, link) → spans ≡ spans_from link 24 (frames_of order (take (length bytes - 24) (drop 24 bytes))) → spans_of bytes ≡ Ok spans
unfolding spans_of
spans_of_file bytes order link spans header is =
    ap (spans_after bytes) header ∙ ap Ok (sym (is ∙ ap (λ (bs : List ℕ). spans_from link 24 (frames_of order bs)) (take_rest bytes 24)))
