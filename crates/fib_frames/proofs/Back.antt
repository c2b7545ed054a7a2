-- A frame file is read back.
use Rattle.std.proofs.Common.{◌≡◌, ◌≤◌, ◌<◌, ◌+◌, ◌^◌, ◌++◌, ◌∷◌, ◌&&◌, [], ℕ, zero, suc, List, Some, None, Ok, Bool, true, false, length, take, drop, refl, ap, ap₂, sym, ◌∙◌, arith, length-drop}
use Rattle.std.specs.Prelude.{map, cond, slice_index, nat_le, ◌==◌}
use Rattle.std.specs.List.{AllByRecursion}
use Rattle.std.proofs.lemmas.List.{append-nil, length-take}
use Rattle.std.proofs.lemmas.Bool.{leb-false}
use Rattle.fib_capture.specs.Captures.{capture_of, ipv4_packet_of, packet_of, record_of, big_16}
use Rattle.fib_capture.specs.Spans.{Span}
use Rattle.fib_capture.specs.Written.{Frame, IsShort, file_bytes, header_bytes}
use Rattle.fib_capture.specs.declared.packet.Packet.{Packet}
use Rattle.fib_capture.specs.declared.packet.Order.TheVariants.{Little}
use Rattle.fib_capture.specs.declared.packet.Link.TheVariants.{Ethernet}
use Rattle.fib_capture.specs.declared.packet.Packet.TheVariants as packets
use Rattle.fib_capture.proofs.WrittenFiles.{written_files_are_read_back}
use Rattle.fib_rounds_taps.specs.Taps.{Pairs}
use Rattle.fib_resolve.specs.declared.types.End.{End}
use Rattle.fib_resolve.specs.declared.types.End.TheVariants as ends
use Rattle.fib_rewrite.specs.Sent.{has_expired, hopped, sent, sent_bytes}
use Rattle.fib_rewrite.proofs.Hopping.{length_sent}
use Rattle.fib_rewrite.proofs.Flowing.{flows}
use Rattle.fib_frames.specs.Frames.{AreBytes, AreInside, FrameFilesAreReadBack, file_header, flows_in, frame_file, frames_in, packet_in, records_in, sent_by}

-- ---- a packet of the file

index_take : (n : ℕ) (xs : List ℕ) (k : ℕ) → ((j : ℕ) → slice_index xs j < 256) → slice_index (take n xs) k < 256
index_take zero xs k small = omega arith
index_take (suc n) [] k small = omega arith
index_take (suc n) (x ∷ xs) zero small = small 0
index_take (suc n) (x ∷ xs) (suc k) small = index_take n xs k (λ j. small (suc j))

index_drop : (n : ℕ) (xs : List ℕ) (k : ℕ) → ((j : ℕ) → slice_index xs j < 256) → slice_index (drop n xs) k < 256
index_drop zero xs k small = small k
index_drop (suc n) [] k small = omega arith
index_drop (suc n) (x ∷ xs) k small = index_drop n xs k (λ j. small (suc j))

-- what is known of a packet of the file
record Good (packet : List ℕ) : Type 0 where
  bytes : AreBytes packet
  short : length packet < 2 ^ 31
  long : 1 < slice_index packet 8 → 20 ≤ length packet

good_none : Good []
good_none = record { bytes = λ k. omega arith; short = omega arith; long = λ lt. absurd (omega (arith, lt)) }

good_at : (bytes : List ℕ) (s : ℕ × ℕ) → AreBytes bytes → length bytes < 2 ^ 31 → (s.0 + s.1 ≤ length bytes) × (20 ≤ s.1) → Good (take s.1 (drop s.0 bytes))
good_at bytes s small few inside =
    let size : length (take s.1 (drop s.0 bytes)) ≡ s.1 = omega (arith, inside.0, length-take s.1 (drop s.0 bytes), length-drop s.0 bytes) in
    record {
      bytes = λ k. index_take s.1 (drop s.0 bytes) k (λ j. index_drop s.0 bytes j small);
      short = omega (arith, size, inside.0, few);
      long = λ lt. omega (arith, size, inside.1);
    }

good_in : (bytes : List ℕ) (spans : List Span) (n : ℕ) → AreBytes bytes → length bytes < 2 ^ 31 → AreInside bytes spans → Good (packet_in bytes spans n)
good_in bytes [] n small few inside = good_none
good_in bytes (None ∷ spans) zero small few inside = good_none
good_in bytes (Some s ∷ spans) zero small few inside = good_at bytes s small few inside.0
good_in bytes (s ∷ spans) (suc n) small few inside = good_in bytes spans n small few inside.1

-- ---- its frame

frame_type : (packet : List ℕ) (i mac : ℕ) → big_16 (sent_bytes packet i mac) 12 ≡ 0x0800
unfolding sent_bytes
frame_type packet i mac = refl

frame_rest : (packet : List ℕ) (i mac : ℕ) → drop 14 (sent_bytes packet i mac) ≡ hopped packet
unfolding sent_bytes
frame_rest packet i mac = refl

frame_read : (packet : List ℕ) (i mac : ℕ) → 20 ≤ length packet → packet_of Ethernet (sent_bytes packet i mac) ≡ ipv4_packet_of (hopped packet)
unfolding packet_of
frame_read packet i mac long = by (nat_le 14 (length (sent_bytes packet i mac))) refl
  where
    by : (b : Bool) → nat_le 14 (length (sent_bytes packet i mac)) ≡ b → cond (b && (big_16 (sent_bytes packet i mac) 12 == 0x0800)) (ipv4_packet_of (drop 14 (sent_bytes packet i mac))) packets.NotIpv4 ≡ ipv4_packet_of (hopped packet)
    by true is = rw (frame_type packet i mac) (ap ipv4_packet_of (frame_rest packet i mac))
    by false is = absurd (let l = length_sent packet i mac long in let f = leb-false 14 (length (sent_bytes packet i mac)) is in omega (arith, l, f, long))

-- the frames of one result are short, and read back they are its flow
record Reads (packet : List ℕ) (frames : List Frame) : Type 0 where
  short : AllByRecursion IsShort frames
  read : map (λ f. packet_of Ethernet f.captured) frames ≡ map (λ f. ipv4_packet_of packet) frames

sent_reads : (packet : List ℕ) (end : End) → Good packet → Reads packet (sent_by packet end)
sent_reads packet ends.Drop g = record { short = tt; read = refl }
sent_reads packet ends.Receive g = record { short = tt; read = refl }
sent_reads packet (ends.Glean i) g = record { short = tt; read = refl }
sent_reads packet (ends.Hop i a None) g = record { short = tt; read = refl }
sent_reads packet (ends.Hop i a (Some mac)) g = by (has_expired packet) refl
  where
    by : (b : Bool) → has_expired packet ≡ b → Reads packet (cond b [] (sent packet i mac ∷ []))
    by true is = record { short = tt; read = refl }
    by false is =
        let live = leb-false (slice_index packet 8) 1 is in
        let long = g.long live in
        let size = length_sent packet i mac long in
        record {
          short = (omega (arith, size, g.short), tt);
          read = ap (λ p. p ∷ []) (frame_read packet i mac long ∙ flows packet (long, live) g.bytes);
        }

-- ---- all frames

all_append : (xs ys : List Frame) → AllByRecursion IsShort xs → AllByRecursion IsShort ys → AllByRecursion IsShort (xs ++ ys)
all_append [] ys p q = q
all_append (x ∷ xs) ys p q = (p.0, all_append xs ys p.1 q)

map_append : (f : Frame → Packet) (xs ys : List Frame) → map f (xs ++ ys) ≡ map f xs ++ map f ys
map_append f [] ys = refl
map_append f (x ∷ xs) ys = ap (λ t. f x ∷ t) (map_append f xs ys)

all_short : (bytes : List ℕ) (spans : List Span) (pairs : Pairs) → AreBytes bytes → length bytes < 2 ^ 31 → AreInside bytes spans → AllByRecursion IsShort (frames_in bytes spans pairs)
unfolding frames_in
all_short bytes spans [] small few inside = tt
all_short bytes spans (p ∷ pairs) small few inside =
    let one = sent_reads (packet_in bytes spans p.0) p.1.end (good_in bytes spans p.0 small few inside) in
    all_append (sent_by (packet_in bytes spans p.0) p.1.end) (frames_in bytes spans pairs) one.short (all_short bytes spans pairs small few inside)

all_read : (bytes : List ℕ) (spans : List Span) (pairs : Pairs) → AreBytes bytes → length bytes < 2 ^ 31 → AreInside bytes spans → map (λ f. packet_of Ethernet f.captured) (frames_in bytes spans pairs) ≡ flows_in bytes spans pairs
unfolding frames_in flows_in
all_read bytes spans [] small few inside = refl
all_read bytes spans (p ∷ pairs) small few inside =
    let one = sent_reads (packet_in bytes spans p.0) p.1.end (good_in bytes spans p.0 small few inside) in
    map_append (λ f. packet_of Ethernet f.captured) (sent_by (packet_in bytes spans p.0) p.1.end) (frames_in bytes spans pairs)
    ∙ ap₂ (λ (xs ys : List Packet). xs ++ ys) one.read (all_read bytes spans pairs small few inside)

none_left : record_of Little [] ≡ None
unfolding record_of
none_left = refl

file_is : (bytes : List ℕ) (spans : List Span) (pairs : Pairs) → frame_file bytes spans pairs ≡ file_bytes (header_bytes Little false 262146 0 0 262144 Ethernet) Little (frames_in bytes spans pairs) []
unfolding file_header file_bytes
file_is bytes spans pairs = ap (λ t. file_header ++ t) (sym (append-nil (records_in bytes spans pairs)))

pub frame_files_are_read_back : FrameFilesAreReadBack
frame_files_are_read_back bytes spans pairs small few inside =
    ap capture_of (file_is bytes spans pairs)
    ∙ (written_files_are_read_back Little false 262146 0 0 262144 Ethernet (frames_in bytes spans pairs) [] (all_short bytes spans pairs small few inside) none_left
    ∙ ap (λ (ps : List Packet). Ok (record { packets = ps; cut = None })) (all_read bytes spans pairs small few inside))
