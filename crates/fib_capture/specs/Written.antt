-- Capture files as they are written: what is written is read back.
use Rattle.std.specs.Prelude.{◌≡◌, ℕ, ◌<◌, ◌^◌, ◌==◌, ◌++◌, Bool, List, Some, None, Ok, length, map, flat_map, reverse, if◌then◌else◌}
use Rattle.std.specs.List.{AllByRecursion}
use Rattle.fib_capture.specs.FlowHash.{four_bytes}
use Rattle.fib_capture.specs.Captures.{record_of, packet_of, capture_of}
use Rattle.fib_capture.specs.declared.packet.Order.{Order}
use Rattle.fib_capture.specs.declared.packet.Order.TheVariants.{Little, Big}
use Rattle.fib_capture.specs.declared.packet.Link.{Link}
use Rattle.fib_capture.specs.declared.packet.Link.TheVariants.{Ethernet, Raw}

-- four bytes of a number
abbrev pub written : Order → ℕ → List ℕ
written Big n = four_bytes n
written Little n = reverse (four_bytes n)

-- a frame with its time and its original length
pub record Frame : Type 0 where
  pub seconds : ℕ
  pub fraction : ℕ
  pub original : ℕ
  pub captured : List ℕ

abbrev pub IsShort : Frame → Type 0
IsShort f = length f.captured < 2 ^ 32

unfoldable pub record_bytes : Order → Frame → List ℕ
record_bytes order f =
    written order f.seconds ++ (written order f.fraction ++ (written order (length f.captured) ++ (written order f.original ++ f.captured)))

-- the mark of microseconds or of nanoseconds, and the number of a link
abbrev pub mark : Bool → ℕ
mark with_nanoseconds = if with_nanoseconds then 0xa1b23c4d else 0xa1b2c3d4

abbrev pub link_number : Link → ℕ
link_number Ethernet = 1
link_number Raw = 101

unfoldable pub header_bytes : Order → Bool → ℕ → ℕ → ℕ → ℕ → Link → List ℕ
header_bytes order with_nanoseconds version zone digits most link =
    written order (mark with_nanoseconds) ++ (written order version ++ (written order zone ++ (written order digits ++ (written order most ++ written order (link_number link)))))

unfoldable pub file_bytes : List ℕ → Order → List Frame → List ℕ → List ℕ
file_bytes header order fs tail = header ++ (flat_map (record_bytes order) fs ++ tail)

-- the frames of a file, after any header, and a tail that is no whole record, give their packets and a cut exactly where there is a tail
abbrev pub WrittenFilesAreReadBack : Type 0
WrittenFilesAreReadBack =
    (order : Order) (with_nanoseconds : Bool) (version zone digits most : ℕ) (link : Link) (fs : List Frame) (tail : List ℕ) →
    AllByRecursion IsShort fs → record_of order tail ≡ None →
    capture_of (file_bytes (header_bytes order with_nanoseconds version zone digits most link) order fs tail)
    ≡ Ok (record { packets = map (λ f. packet_of link f.captured) fs; cut = if length tail == 0 then None else Some (length fs) })
