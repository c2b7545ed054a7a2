-- The reader's loop.
use Rattle.std.proofs.Common.{◌≡◌, ◌∷◌, ◌++◌, ◌∙◌, [], ℕ, ◌==◌, not, List, length, take, drop, map, Ok, ◌-◌, Bool, true, false, Option, Some, None, refl, ap, sym, append_assoc, if◌then◌else◌}
use Rattle.std.proofs.lemmas.List.{append-nil, length-map, take_rest}
use Rattle.fib_capture.specs.Captures.{record_of, frames_of, left_of, packet_of, records_of, header_of, capture_after, capture_of, Capture}
use Rattle.fib_capture.specs.declared.packet.Order.{Order}
use Rattle.fib_capture.specs.declared.packet.Link.{Link}
use Rattle.fib_capture.specs.declared.packet.Packet.{Packet}
use Rattle.fib_capture.proofs.Records.{frames_of_some, frames_of_none, left_of_some, left_of_none}

-- a packet goes over from what is left to what is read
pub one_more : (order : Order) (link : Link) (told before : List Packet) (rest frame after : List ℕ) (all : List Packet) (p : Packet) → before ++ map (packet_of link) (frames_of order rest) ≡ all → told ≡ before ++ p ∷ [] → record_of order rest ≡ Some (frame, after) → p ≡ packet_of link frame → told ++ map (packet_of link) (frames_of order after) ≡ all
one_more order link told before rest frame after all p h t e is =
    rw (t, append_assoc, is) (ap (λ fs. before ++ map (packet_of link) fs) (sym (frames_of_some order rest (frame, after) e)) ∙ h)

pub left_more : (order : Order) (rest frame after left : List ℕ) → left_of order rest ≡ left → record_of order rest ≡ Some (frame, after) → left_of order after ≡ left
left_more order rest frame after left h e = sym (left_of_some order rest (frame, after) e) ∙ h

same_cut : (b : Bool) (n m : ℕ) → n ≡ m → (if not b then Some n else None) ≡ (if b then None else Some m)
same_cut true n m e = refl
same_cut false n m e = ap Some e

capture_from : List Packet → Option ℕ → Capture
capture_from packets cut = record { packets = packets; cut = cut }

-- no record is left
pub all_read : (order : Order) (link : Link) (packets : List Packet) (rest bytes : List ℕ) (none_left : Bool) (c : Capture) → packets ++ map (packet_of link) (frames_of order rest) ≡ map (packet_of link) (frames_of order bytes) → left_of order rest ≡ left_of order bytes → record_of order rest ≡ None → none_left ≡ (length rest == 0) → c ≡ record { packets = packets; cut = if not none_left then Some (length packets) else None } → c ≡ records_of order link bytes
unfolding records_of capture_from
all_read order link packets rest bytes none_left c told left none empty is =
    let read : packets ≡ map (packet_of link) (frames_of order bytes) = sym (append-nil packets) ∙ ap (λ fs. packets ++ map (packet_of link) fs) (sym (frames_of_none order rest none)) ∙ told in
    let rest_is : left_of order bytes ≡ rest = sym left ∙ left_of_none order rest none in
    let empty_is : none_left ≡ (length (left_of order bytes) == 0) = empty ∙ ap (λ (bs : List ℕ). length bs == 0) (sym rest_is) in
    let count : length packets ≡ length (frames_of order bytes) = ap length read ∙ length-map (frames_of order bytes) (packet_of link) in
    is
    ∙ ap (capture_from packets) (same_cut none_left (length packets) (length (frames_of order bytes)) count)
    ∙ ap (λ ps. capture_from ps (if none_left then None else Some (length (frames_of order bytes)))) read
    ∙ ap (λ (b : Bool). capture_from (map (packet_of link) (frames_of order bytes)) (if b then None else Some (length (frames_of order bytes)))) empty_is

-- the file header, and the bytes after it in the code's form
pub all_of_file : (bytes : List ℕ) (order : Order) (link : Link) (c : Capture) → header_of bytes ≡ Ok (order, link) → c ≡ records_of order link (take (length bytes - 24) (drop 24 bytes)) → capture_of bytes ≡ Ok c
unfolding capture_of
all_of_file bytes order link c header is = ap (capture_after bytes) header ∙ ap Ok (sym (is ∙ ap (records_of order link) (take_rest bytes 24)))
