-- The packets of a round, and what their lines print.
use Rattle.std.specs.Prelude.{ℕ, ◌≡◌, ◌+◌, ◌++◌, ◌∷◌, [], List, Option, Some, None}
use Rattle.fib_resolve.specs.declared.types.Tables.{Tables}
use Rattle.fib_core_results.specs.declared.record.Record.{Record}
use Rattle.fib_core_results.specs.Trails.{AtLeast, version_at, IsRecordOk, settled_answer}
use Rattle.fib_core_results.specs.Steady.{IsSteady}
use Rattle.fib_print.specs.Packets.{packet_text, not_ipv4_text, bad_header_text, cut_text}
use Rattle.fib_capture.specs.declared.packet.Packet.{Packet}
use Rattle.fib_capture.specs.declared.packet.Packet.TheVariants.{Flow, NotIpv4, BadHeader}

-- A right answer to a flow of a round that opened at version k, over all tables until its close: of that address and hash, right and
-- steady, and of no version before the opening. It is of none after the close, since a right answer's window lies in the history.
pub record IsAnswer (k : ℕ) (H : List Tables) (a h : ℕ) (r : Record) : Type 0 where
  pub addr : r.addr ≡ a
  pub hash : r.hash ≡ h
  pub later : AtLeast (version_at k) r.lo
  pub right : IsRecordOk H r
  pub steady : IsSteady H r

-- a line for each packet, numbered from n; the flows print the results in turn
unfoldable pub packets_text : Tables → ℕ → List Packet → List Record → List ℕ
packets_text S n [] results = []
packets_text S n (NotIpv4 ∷ packets) results = not_ipv4_text n ++ packets_text S (n + 1) packets results
packets_text S n (BadHeader ∷ packets) results = bad_header_text n ++ packets_text S (n + 1) packets results
packets_text S n (Flow a h ∷ packets) [] = []
packets_text S n (Flow a h ∷ packets) (r ∷ results) = packet_text S n r ++ packets_text S (n + 1) packets results

-- the last line, where the capture is cut inside a packet
abbrev pub last_text : Option ℕ → List ℕ
last_text None = []
last_text (Some n) = cut_text n

-- what passes answer that all see these tables, as version k
unfoldable pub answers : ℕ → Tables → List Packet → List Record
answers k S [] = []
answers k S (NotIpv4 ∷ packets) = answers k S packets
answers k S (BadHeader ∷ packets) = answers k S packets
answers k S (Flow a h ∷ packets) = settled_answer S k a h ∷ answers k S packets
