-- Where the packets of a capture stand in its file.
use Rattle.std.specs.Prelude.{◌≡◌, ◌≤◌, ℕ, ◌+◌, ◌-◌, List, [], ◌∷◌, Option, Some, None, Result, Ok, Err, length, take, drop, slice_get}
use Rattle.std.specs.List.{AllByRecursion}
use Rattle.fib_capture.specs.Captures.{Capture, packet_of, ipv4_packet_of, frames_of, header_of, capture_of}
use Rattle.fib_capture.specs.declared.packet.Packet.{Packet}
use Rattle.fib_capture.specs.declared.packet.Packet.TheVariants as packets
use Rattle.fib_capture.specs.declared.packet.CaptureError.{CaptureError}
use Rattle.fib_capture.specs.declared.packet.Order.{Order}
use Rattle.fib_capture.specs.declared.packet.Link.{Link}
use Rattle.fib_capture.specs.declared.packet.Link.TheVariants.{Ethernet, Raw}

-- a packet's first byte in the file and the number of its captured bytes, from its IPv4 header on. None where it is no flow
abbrev pub Span : Type 0
Span = Option (ℕ × ℕ)

-- the number of a frame's bytes before its IPv4 header
abbrev pub link_length : Link → ℕ
link_length Ethernet = 14
link_length Raw = 0

abbrev pub span_of_packet : Packet → ℕ × ℕ → Span
span_of_packet (packets.Flow addr hash) span = Some span
span_of_packet packets.NotIpv4 span = None
span_of_packet packets.BadHeader span = None

-- the span of a frame whose captured bytes begin at a place of the file
unfoldable pub span_of : Link → ℕ → List ℕ → Span
span_of link start frame = span_of_packet (packet_of link frame) (start + link_length link, length frame - link_length link)

-- the spans of records that begin at a place of the file: each is 16 bytes and its captured bytes
unfoldable pub spans_from : Link → ℕ → List (List ℕ) → List Span
spans_from link at [] = []
spans_from link at (frame ∷ frames) = span_of link (at + 16) frame ∷ spans_from link (at + 16 + length frame) frames

abbrev pub spans_after : List ℕ → Result (Order × Link) CaptureError → Result (List Span) CaptureError
spans_after bytes (Err e) = Err e
spans_after bytes (Ok h) = Ok (spans_from h.1 24 (frames_of h.0 (drop 24 bytes)))

-- the spans of a file's packets in order, or why it is refused: as its capture is
unfoldable pub spans_of : List ℕ → Result (List Span) CaptureError
spans_of bytes = spans_after bytes (header_of bytes)

-- a span points to its flow: the bytes there, read as an IPv4 packet, are the packet in that place of the capture
abbrev pub SpansPointToFlows : Type 0
SpansPointToFlows =
    (bytes : List ℕ) (spans : List Span) (c : Capture) → spans_of bytes ≡ Ok spans → capture_of bytes ≡ Ok c →
    (k at n : ℕ) → slice_get spans k ≡ Some (Some (at, n)) → slice_get c.packets k ≡ Some (ipv4_packet_of (take n (drop at bytes)))

-- a span lies among that many bytes, and has room for an IPv4 header
abbrev pub IsInside : ℕ → Span → Type 0
IsInside size None = Unit {0}
IsInside size (Some s) = (s.0 + s.1 ≤ size) × (20 ≤ s.1)

-- the spans of a file's packets lie in the file
abbrev pub SpansLieInFile : Type 0
SpansLieInFile = (bytes : List ℕ) (spans : List Span) → spans_of bytes ≡ Ok spans → AllByRecursion (IsInside (length bytes)) spans
