-- The frames in which a capture's packets leave, and the lines on those whose time to live is used up.
use Rattle.std.specs.Prelude.{ℕ, ◌≡◌, ◌<◌, ◌^◌, Ok, slice_index, ◌++◌, ◌∷◌, [], List, Bool, false, Option, Some, None, slice_get, take, drop, length}
use Rattle.std.specs.Prelude.{map, flat_map, codes, decimal, if◌then◌else◌}
use Rattle.std.specs.List.{AllByRecursion}
use Rattle.fib_resolve.specs.declared.types.End.{End}
use Rattle.fib_resolve.specs.declared.types.End.TheVariants as ends
use Rattle.fib_capture.specs.Captures.{capture_of, ipv4_packet_of}
use Rattle.fib_capture.specs.Spans.{Span, IsInside}
use Rattle.fib_capture.specs.Written.{Frame, record_bytes, header_bytes}
use Rattle.fib_capture.specs.declared.packet.Packet.{Packet}
use Rattle.fib_capture.specs.declared.packet.Order.TheVariants.{Little}
use Rattle.fib_capture.specs.declared.packet.Link.TheVariants.{Ethernet}
use Rattle.fib_rounds_taps.specs.Taps.{Pairs}
use Rattle.fib_rewrite.specs.Sent.{has_expired, sent}

-- the bytes of a span
abbrev pub bytes_at : List ℕ → Option Span → List ℕ
bytes_at bytes None = []
bytes_at bytes (Some None) = []
bytes_at bytes (Some (Some s)) = take s.1 (drop s.0 bytes)

-- the packet of that number in a file with these spans, from its IPv4 header on
abbrev pub packet_in : List ℕ → List Span → ℕ → List ℕ
packet_in bytes spans place = bytes_at bytes (slice_get spans place)

-- the frame in which a packet leaves: where it ends at a neighbor whose address is known, and has a hop left
abbrev pub sent_by : List ℕ → End → List Frame
sent_by packet (ends.Hop i a (Some mac)) = if has_expired packet then [] else sent packet i mac ∷ []
sent_by packet (ends.Hop i a None) = []
sent_by packet (ends.Glean i) = []
sent_by packet ends.Drop = []
sent_by packet ends.Receive = []

-- whether it ends there and has none
abbrev pub expires_by : List ℕ → End → Bool
expires_by packet (ends.Hop i a (Some mac)) = has_expired packet
expires_by packet (ends.Hop i a None) = false
expires_by packet (ends.Glean i) = false
expires_by packet ends.Drop = false
expires_by packet ends.Receive = false

-- the frames of packets with these results, in their order
unfoldable pub frames_in : List ℕ → List Span → Pairs → List Frame
frames_in bytes spans [] = []
frames_in bytes spans (p ∷ pairs) = sent_by (packet_in bytes spans p.0) p.1.end ++ frames_in bytes spans pairs

-- their records, one after the other
abbrev pub records_in : List ℕ → List Span → Pairs → List ℕ
records_in bytes spans pairs = flat_map (record_bytes Little) (frames_in bytes spans pairs)

-- the header of their file: version 2.4, at most 262,144 bytes a frame, Ethernet
unfoldable pub file_header : List ℕ
file_header = header_bytes Little false 262146 0 0 262144 Ethernet

-- the capture file of the frames
abbrev pub frame_file : List ℕ → List Span → Pairs → List ℕ
frame_file bytes spans pairs = file_header ++ records_in bytes spans pairs

-- the numbers of the packets that would have left, but had no hop left
unfoldable pub expired_in : List ℕ → List Span → Pairs → List ℕ
expired_in bytes spans [] = []
expired_in bytes spans (p ∷ pairs) =
    (if expires_by (packet_in bytes spans p.0) p.1.end then p.0 ∷ [] else []) ++ expired_in bytes spans pairs

-- the line on such a packet
unfoldable pub expired_line : ℕ → List ℕ
expired_line n = codes "ttl expired in packet " ++ decimal n ++ codes "\n"

abbrev pub expired_text : List ℕ → List Span → Pairs → List ℕ
expired_text bytes spans pairs = flat_map expired_line (expired_in bytes spans pairs)

-- the spans lie among the bytes
abbrev pub AreInside : List ℕ → List Span → Type 0
AreInside bytes spans = AllByRecursion (IsInside (length bytes)) spans

-- numbers of eight bits
abbrev pub AreBytes : List ℕ → Type 0
AreBytes bytes = (k : ℕ) → slice_index bytes k < 256

-- the packets that leave, as their frames show them to whoever reads the file
unfoldable pub flows_in : List ℕ → List Span → Pairs → List Packet
flows_in bytes spans [] = []
flows_in bytes spans (p ∷ pairs) =
    map (λ f. ipv4_packet_of (packet_in bytes spans p.0)) (sent_by (packet_in bytes spans p.0) p.1.end) ++ flows_in bytes spans pairs

-- A frame file is a capture that isn't cut. Its packets are those that left, in their order, and each is the flow that it was.
abbrev pub FrameFilesAreReadBack : Type 0
FrameFilesAreReadBack =
    (bytes : List ℕ) (spans : List Span) (pairs : Pairs) → AreBytes bytes → length bytes < 2 ^ 31 → AreInside bytes spans
    → capture_of (frame_file bytes spans pairs) ≡ Ok (record { packets = flows_in bytes spans pairs; cut = None })
