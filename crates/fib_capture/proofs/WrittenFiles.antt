-- What is written is read back.
use Rattle.std.proofs.Common.{◌≡◌, ◌∷◌, ◌++◌, ◌∙◌, [], ℕ, ◌+◌, ◌*◌, ◌/◌, ◌%◌, ◌^◌, ◌<◌, ◌≤◌, ◌==◌, List, length, take, drop, map, Bool, true, false, Some, None, Ok, refl, ap, sym, arith, length-append, append_assoc, if◌then◌else◌}
use Rattle.std.specs.List.{AllByRecursion, flat_map}
use Rattle.std.proofs.lemmas.Bool.Decides.{nat_tests}
use Rattle.std.proofs.lemmas.Grind.{common_steps}
use Rattle.std.proofs.lemmas.List.{take_rest, length-map}
use Rattle.fib_capture.specs.Captures.{Capture, big_32, number_at, order_of, link_of, header_of, header_of_order, record_of, frames_of, left_of, packet_of, records_of, capture_of}
use Rattle.fib_capture.specs.Written.{written, Frame, IsShort, record_bytes, header_bytes, file_bytes, WrittenFilesAreReadBack}
use Rattle.fib_capture.specs.declared.packet.Order.{Order}
use Rattle.fib_capture.specs.declared.packet.Order.TheVariants.{Little, Big}
use Rattle.fib_capture.specs.declared.packet.Link.{Link}
use Rattle.fib_capture.specs.declared.packet.Link.TheVariants.{Ethernet, Raw}
use Rattle.fib_capture.proofs.Records.{whole_record, frames_of_some, frames_of_none, left_of_some, left_of_none}

-- the four bytes of a number are that number
big_of_four : (n : ℕ) → n < 2 ^ 32 → (n / 2 ^ 24 % 256 * 256 + n / 2 ^ 16 % 256) * 65536 + (n / 2 ^ 8 % 256 * 256 + n % 256) ≡ n
big_of_four n small = omega arith

little_of_four : (n : ℕ) → n < 2 ^ 32 → n % 256 + n / 2 ^ 8 % 256 * 256 + n / 2 ^ 16 % 256 * 65536 + n / 2 ^ 24 % 256 * 16777216 ≡ n
little_of_four n small = omega arith

-- a record's captured length
length_read : (order : Order) (s t n o : ℕ) (rest : List ℕ) → n < 2 ^ 32 → number_at order (written order s ++ (written order t ++ (written order n ++ (written order o ++ rest)))) 8 ≡ n
unfolding number_at
length_read Big s t n o rest small = big_of_four n small
length_read Little s t n o rest small = little_of_four n small

header_dropped : (order : Order) (s t n o : ℕ) (rest : List ℕ) → drop 16 (written order s ++ (written order t ++ (written order n ++ (written order o ++ rest)))) ≡ rest
header_dropped Big s t n o rest = refl
header_dropped Little s t n o rest = refl

header_long : (order : Order) (s t n o : ℕ) (rest : List ℕ) → 16 ≤ length (written order s ++ (written order t ++ (written order n ++ (written order o ++ rest))))
header_long Big s t n o rest = omega arith
header_long Little s t n o rest = omega arith

-- a record's parts, and what follows
abbrev parts : Order → Frame → List ℕ → List ℕ
parts order f rest = written order f.seconds ++ (written order f.fraction ++ (written order (length f.captured) ++ (written order f.original ++ (f.captured ++ rest))))

record_joined : (order : Order) (f : Frame) (rest : List ℕ) → record_bytes order f ++ rest ≡ parts order f rest
unfolding record_bytes
record_joined Big f rest = refl
record_joined Little f rest = refl

take_front : (xs ys : List ℕ) → xs ≡ take (length xs) (xs ++ ys)
take_front xs ys = grind (arith, common_steps)

drop_front : (xs ys : List ℕ) → ys ≡ drop (length xs) (xs ++ ys)
drop_front xs ys = grind (arith, common_steps)

record_read : (order : Order) (f : Frame) (rest : List ℕ) → IsShort f → record_of order (record_bytes order f ++ rest) ≡ Some (f.captured, rest)
record_read order f rest short =
    rw (record_joined order f rest)
    (whole_record order (parts order f rest) (f.captured ++ rest) f.captured rest (length f.captured)
    (header_long order f.seconds f.fraction (length f.captured) f.original (f.captured ++ rest))
    (sym (length_read order f.seconds f.fraction (length f.captured) f.original (f.captured ++ rest) short))
    (sym (take_rest (parts order f rest) 16 ∙ header_dropped order f.seconds f.fraction (length f.captured) f.original (f.captured ++ rest)))
    (omega (arith, length-append f.captured rest))
    (take_front f.captured rest)
    (drop_front f.captured rest))

frames_read : (order : Order) (fs : List Frame) (tail : List ℕ) → AllByRecursion IsShort fs → record_of order tail ≡ None → frames_of order (flat_map (record_bytes order) fs ++ tail) ≡ map (λ f. f.captured) fs
frames_read order [] tail short none = frames_of_none order tail none
frames_read order (f ∷ fs) tail short none =
    ap (frames_of order) (append_assoc (record_bytes order f) (flat_map (record_bytes order) fs) tail)
    ∙ frames_of_some order _ (f.captured, flat_map (record_bytes order) fs ++ tail) (record_read order f (flat_map (record_bytes order) fs ++ tail) short.0)
    ∙ ap (λ xs. f.captured ∷ xs) (frames_read order fs tail short.1 none)

left_read : (order : Order) (fs : List Frame) (tail : List ℕ) → AllByRecursion IsShort fs → record_of order tail ≡ None → left_of order (flat_map (record_bytes order) fs ++ tail) ≡ tail
left_read order [] tail short none = left_of_none order tail none
left_read order (f ∷ fs) tail short none =
    ap (left_of order) (append_assoc (record_bytes order f) (flat_map (record_bytes order) fs) tail)
    ∙ left_of_some order _ (f.captured, flat_map (record_bytes order) fs ++ tail) (record_read order f (flat_map (record_bytes order) fs ++ tail) short.0)
    ∙ left_read order fs tail short.1 none

map_twice : (link : Link) (fs : List Frame) → map (packet_of link) (map (λ f. f.captured) fs) ≡ map (λ f. packet_of link f.captured) fs
map_twice link [] = refl
map_twice link (f ∷ fs) = ap (λ ps. packet_of link f.captured ∷ ps) (map_twice link fs)

written_capture : Link → List Frame → List (List ℕ) → List ℕ → Capture
written_capture link fs frames left = record { packets = map (packet_of link) frames; cut = if length left == 0 then None else Some (length frames) }

records_read : (order : Order) (link : Link) (fs : List Frame) (tail : List ℕ) → AllByRecursion IsShort fs → record_of order tail ≡ None →
    records_of order link (flat_map (record_bytes order) fs ++ tail) ≡ record { packets = map (λ f. packet_of link f.captured) fs; cut = if length tail == 0 then None else Some (length fs) }
unfolding records_of
records_read order link fs tail short none =
    rw (frames_read order fs tail short none, left_read order fs tail short none, map_twice link fs, length-map fs (λ (f : Frame). f.captured)) refl

long_enough : (bytes : List ℕ) → 24 ≤ length bytes → header_of bytes ≡ header_of_order bytes (order_of (big_32 bytes 0))
unfolding header_of
long_enough bytes long = grind (arith, nat_tests)

file_long : (order : Order) (with_nanoseconds : Bool) (version zone digits most : ℕ) (link : Link) (rest : List ℕ) → 24 ≤ length (header_bytes order with_nanoseconds version zone digits most link ++ rest)
unfolding header_bytes
file_long Big b v z d m l rest = omega arith
file_long Little b v z d m l rest = omega arith

order_read : (order : Order) (with_nanoseconds : Bool) (version zone digits most : ℕ) (link : Link) (rest : List ℕ) → header_of_order (header_bytes order with_nanoseconds version zone digits most link ++ rest) (order_of (big_32 (header_bytes order with_nanoseconds version zone digits most link ++ rest) 0)) ≡ Ok (order, link)
unfolding header_bytes order_of link_of number_at
order_read Big true v z d m Ethernet rest = refl
order_read Big true v z d m Raw rest = refl
order_read Big false v z d m Ethernet rest = refl
order_read Big false v z d m Raw rest = refl
order_read Little true v z d m Ethernet rest = refl
order_read Little true v z d m Raw rest = refl
order_read Little false v z d m Ethernet rest = refl
order_read Little false v z d m Raw rest = refl

header_read : (order : Order) (with_nanoseconds : Bool) (version zone digits most : ℕ) (link : Link) (rest : List ℕ) → header_of (header_bytes order with_nanoseconds version zone digits most link ++ rest) ≡ Ok (order, link)
header_read order b v z d m link rest = long_enough _ (file_long order b v z d m link rest) ∙ order_read order b v z d m link rest

body_read : (order : Order) (with_nanoseconds : Bool) (version zone digits most : ℕ) (link : Link) (rest : List ℕ) → drop 24 (header_bytes order with_nanoseconds version zone digits most link ++ rest) ≡ rest
unfolding header_bytes
body_read Big b v z d m l rest = refl
body_read Little b v z d m l rest = refl

pub written_files_are_read_back : WrittenFilesAreReadBack
unfolding capture_of file_bytes
written_files_are_read_back order b v z d m link fs tail short none =
    rw (header_read order b v z d m link (flat_map (record_bytes order) fs ++ tail), body_read order b v z d m link (flat_map (record_bytes order) fs ++ tail))
    (ap Ok (records_read order link fs tail short none))
