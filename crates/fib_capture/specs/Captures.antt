-- The grammar of capture files (libpcap's classic format), and what a packet is.
use Rattle.std.specs.Prelude.{◌≡◌, ℕ, ◌+◌, ◌*◌, ◌/◌, ◌%◌, ◌==◌, ◌&&◌, ◌||◌, zero, suc, Bool, List, [], ◌∷◌, Option, Some, None, Result, Ok}
use Rattle.std.specs.Prelude.{Err, length, take, drop, map, slice_index, nat_lt, nat_le, if◌then◌else◌}
use Rattle.fib_capture.specs.FlowHash.{flow_hash}
use Rattle.fib_capture.specs.declared.packet.Packet.{Packet}
use Rattle.fib_capture.specs.declared.packet.Packet.TheVariants as packets
use Rattle.fib_capture.specs.declared.packet.CaptureError.{CaptureError}
use Rattle.fib_capture.specs.declared.packet.CaptureError.TheVariants as errors
use Rattle.fib_capture.specs.declared.packet.Order.{Order}
use Rattle.fib_capture.specs.declared.packet.Order.TheVariants.{Little, Big}
use Rattle.fib_capture.specs.declared.packet.Link.{Link}
use Rattle.fib_capture.specs.declared.packet.Link.TheVariants.{Ethernet, Raw}

-- 16 and 32 bits at a place, the highest byte first
abbrev pub big_16 : List ℕ → ℕ → ℕ
big_16 bytes at = slice_index bytes at * 256 + slice_index bytes (at + 1)

abbrev pub big_32 : List ℕ → ℕ → ℕ
big_32 bytes at = big_16 bytes at * 65536 + big_16 bytes (at + 2)

-- 32 bits at a place, the lowest byte first
abbrev pub little_32 : List ℕ → ℕ → ℕ
little_32 bytes at =
    slice_index bytes at + slice_index bytes (at + 1) * 256 + slice_index bytes (at + 2) * 65536 + slice_index bytes (at + 3) * 16777216

-- a number of the file, in its byte order
unfoldable pub number_at : Order → List ℕ → ℕ → ℕ
number_at Little bytes at = little_32 bytes at
number_at Big bytes at = big_32 bytes at

-- the byte order that the first four bytes tell, of captures with microseconds and with nanoseconds
unfoldable pub order_of : ℕ → Option Order
order_of magic =
    if magic == 0xd4c3b2a1 || magic == 0x4d3cb2a1 then Some Little else
    if magic == 0xa1b2c3d4 || magic == 0xa1b23c4d then Some Big else
    None

unfoldable pub link_of : ℕ → Option Link
link_of number =
    if number == 1 then Some Ethernet else
    if number == 101 then Some Raw else
    None

-- the file header, 24 bytes, of which the first four and the last four are looked at
abbrev pub header_of_link : Order → ℕ → Option Link → Result (Order × Link) CaptureError
header_of_link order number None = Err (errors.LinkType number)
header_of_link order number (Some link) = Ok (order, link)

abbrev pub header_of_order : List ℕ → Option Order → Result (Order × Link) CaptureError
header_of_order bytes None = Err errors.Magic
header_of_order bytes (Some order) = header_of_link order (number_at order bytes 20) (link_of (number_at order bytes 20))

unfoldable pub header_of : List ℕ → Result (Order × Link) CaptureError
header_of bytes = if nat_lt (length bytes) 24 then Err errors.Short else header_of_order bytes (order_of (big_32 bytes 0))

-- the first record, of 16 bytes and its captured bytes: the captured bytes, and what follows. None where it is not whole
unfoldable pub record_of : Order → List ℕ → Option (List ℕ × List ℕ)
record_of order bytes =
    if nat_lt (length bytes) 16 then None else
    if nat_lt (length bytes) (16 + number_at order bytes 8) then None else
    Some (take (number_at order bytes 8) (drop 16 bytes), drop (16 + number_at order bytes 8) bytes)

-- the captured bytes of the records up to the first that is not whole; a bound on their number makes the recursion end
unfoldable pub frames_within : ℕ → Order → List ℕ → List (List ℕ)
frames_within zero order bytes = []
frames_within (suc most) order bytes = elim (record_of order bytes) [ None ↦ [] | Some r ↦ r.0 ∷ frames_within most order r.1 ]

-- what is left after them
unfoldable pub left_within : ℕ → Order → List ℕ → List ℕ
left_within zero order bytes = bytes
left_within (suc most) order bytes = elim (record_of order bytes) [ None ↦ bytes | Some r ↦ left_within most order r.1 ]

-- each record has a byte at least, so there are no more records than bytes
unfoldable pub frames_of : Order → List ℕ → List (List ℕ)
frames_of order bytes = frames_within (length bytes) order bytes

unfoldable pub left_of : Order → List ℕ → List ℕ
left_of order bytes = left_within (length bytes) order bytes

-- the number of bytes of an IPv4 header, as its first byte tells
abbrev pub header_length : List ℕ → ℕ
header_length header = 4 * (slice_index header 0 % 16)

-- TCP or UDP, the first fragment, and four bytes captured after the IPv4 header
abbrev pub has_ports : List ℕ → Bool
has_ports header =
    (slice_index header 9 == 6 || slice_index header 9 == 17)
    && (big_16 header 6 % 8192 == 0 && nat_le (header_length header + 4) (length header))

unfoldable pub ports_of : List ℕ → ℕ × ℕ
ports_of header =
    if has_ports header then (big_16 header (header_length header), big_16 header (header_length header + 2)) else (0, 0)

-- an IPv4 header of at least 20 bytes
abbrev pub is_header : List ℕ → Bool
is_header header = nat_le 20 (length header) && (slice_index header 0 / 16 == 4 && nat_le 5 (slice_index header 0 % 16))

abbrev pub flow_of : List ℕ → Packet
flow_of header =
    packets.Flow (big_32 header 16)
    (flow_hash (big_32 header 12) (big_32 header 16) (slice_index header 9) (ports_of header).0 (ports_of header).1)

-- the packet that begins with its IPv4 header
unfoldable pub ipv4_packet_of : List ℕ → Packet
ipv4_packet_of header = if is_header header then flow_of header else packets.BadHeader

-- the packet of a frame's captured bytes
unfoldable pub packet_of : Link → List ℕ → Packet
packet_of Ethernet frame =
    if nat_le 14 (length frame) && big_16 frame 12 == 0x0800 then ipv4_packet_of (drop 14 frame) else packets.NotIpv4
packet_of Raw frame =
    if nat_le 1 (length frame) && slice_index frame 0 / 16 == 4 then ipv4_packet_of frame else packets.NotIpv4

-- the packets in order, and the number of the packet that the end of the file cuts, where it cuts one
pub record Capture : Type 0 where
  pub packets : List Packet
  pub cut : Option ℕ

-- the capture of the bytes after the file header
unfoldable pub records_of : Order → Link → List ℕ → Capture
records_of order link bytes = record {
  packets = map (packet_of link) (frames_of order bytes);
  cut = if length (left_of order bytes) == 0 then None else Some (length (frames_of order bytes));
}

abbrev pub capture_after : List ℕ → Result (Order × Link) CaptureError → Result Capture CaptureError
capture_after bytes (Err e) = Err e
capture_after bytes (Ok h) = Ok (records_of h.0 h.1 (drop 24 bytes))

-- what a file holds, or why it is refused
unfoldable pub capture_of : List ℕ → Result Capture CaptureError
capture_of bytes = capture_after bytes (header_of bytes)

-- what a call answered is what the grammar gives, unless memory ran out
abbrev pub Refuses : {X : Type 0} → CaptureError → Result X CaptureError → Type 0
Refuses errors.Memory read = Unit {0}
Refuses errors.Short read = read ≡ Err errors.Short
Refuses errors.Magic read = read ≡ Err errors.Magic
Refuses (errors.LinkType n) read = read ≡ Err (errors.LinkType n)

abbrev pub Gives : {X : Type 0} → Result X CaptureError → Result X CaptureError → Type 0
Gives (Ok value) read = read ≡ Ok value
Gives (Err e) read = Refuses e read
