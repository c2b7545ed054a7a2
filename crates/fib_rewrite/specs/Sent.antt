-- Packets as they are sent on.
use Rattle.std.specs.Prelude.{ℕ, ◌≡◌, ◌<◌, ◌≤◌, ◌+◌, ◌-◌, ◌/◌, ◌%◌, ◌^◌, ◌++◌, ◌∷◌, List, Bool, length, take, drop, slice_index, nat_le, nat_lt, if◌then◌else◌}
use Rattle.fib_capture.specs.FlowHash.{two_bytes, four_bytes}
use Rattle.fib_capture.specs.Captures.{big_16, ipv4_packet_of}
use Rattle.fib_capture.specs.Written.{Frame, record_bytes}
use Rattle.fib_capture.specs.declared.packet.Order.TheVariants.{Little}

-- a packet is a list of bytes, from its IPv4 header on (RFC 791, section 3.1). Its time to live is byte 8, its checksum bytes 10 and 11

-- no hop is left to it
abbrev pub has_expired : List ℕ → Bool
has_expired packet = nat_le (slice_index packet 8) 1

-- The checksum where the word that holds the time to live is 256 less: 256 more, in the arithmetic of complements.
abbrev pub checksum_after : ℕ → ℕ
checksum_after c = if nat_lt (c + 256) 65535 then c + 256 else c + 256 - 65535

-- one hop less to live
unfoldable pub hopped : List ℕ → List ℕ
hopped packet =
    take 8 packet ++ ((slice_index packet 8 - 1) ∷ slice_index packet 9 ∷ two_bytes (checksum_after (big_16 packet 10)) ++ drop 12 packet)

-- the six bytes of a hardware address
abbrev pub mac_bytes : ℕ → List ℕ
mac_bytes mac = two_bytes (mac / 2 ^ 32) ++ four_bytes mac

-- the hardware address of an interface: 02:fe:00:00 and the number of the interface, of which 16 bits count
abbrev pub source_bytes : ℕ → List ℕ
source_bytes interface = 2 ∷ 254 ∷ 0 ∷ 0 ∷ two_bytes interface

-- the Ethernet frame in which the packet leaves through an interface for a neighbor
unfoldable pub sent_bytes : List ℕ → ℕ → ℕ → List ℕ
sent_bytes packet interface mac = mac_bytes mac ++ (source_bytes interface ++ (8 ∷ 0 ∷ hopped packet))

-- as a frame of a capture file, without a time
abbrev pub frame_with : List ℕ → Frame
frame_with bytes = record { seconds = 0; fraction = 0; original = length bytes; captured = bytes }

abbrev pub sent : List ℕ → ℕ → ℕ → Frame
sent packet interface mac = frame_with (sent_bytes packet interface mac)

unfoldable pub sent_record : List ℕ → ℕ → ℕ → List ℕ
sent_record packet interface mac = record_bytes Little (sent packet interface mac)

-- the sum of an IPv4 header's ten words, of which the checksum is one
abbrev pub header_sum : List ℕ → ℕ
header_sum p =
    big_16 p 0 + big_16 p 2 + big_16 p 4 + big_16 p 6 + big_16 p 8 + big_16 p 10 + big_16 p 12 + big_16 p 14 + big_16 p 16 + big_16 p 18

abbrev pub IsPacket : List ℕ → Type 0
IsPacket packet = (20 ≤ length packet) × (1 < slice_index packet 8)

-- in the arithmetic of complements the header's sum is what it was, so a checksum that was right is right
abbrev pub HeaderSumsStay : Type 0
HeaderSumsStay =
    (packet : List ℕ) → IsPacket packet → ((k : ℕ) → slice_index packet k < 256)
    → header_sum (hopped packet) % 65535 ≡ header_sum packet % 65535

-- the packet is the same flow, by address and hash
abbrev pub FlowsStay : Type 0
FlowsStay =
    (packet : List ℕ) → IsPacket packet → ((k : ℕ) → slice_index packet k < 256) → ipv4_packet_of (hopped packet) ≡ ipv4_packet_of packet
