-- The rounds of a run, and its counts in their terms.
use Rattle.std.specs.Prelude.{ℕ, ◌≡◌, ◌+◌, ◌∷◌, [], List, Bool, true, false, Some, None, length, map, filter, flat_map}
use Rattle.std.specs.List.{sum_by, count_by, AllByRecursion}
use Rattle.fib_resolve.specs.Tables.{fresh}
use Rattle.fib_resolve.specs.Resolution.{resolve}
use Rattle.fib_resolve.specs.declared.types.Tables.{Tables}
use Rattle.fib_resolve.specs.declared.types.End.{End}
use Rattle.fib_resolve.specs.declared.types.End.TheVariants as ends
use Rattle.fib_capture.specs.Captures.{Capture}
use Rattle.fib_capture.specs.declared.packet.Packet.{Packet}
use Rattle.fib_capture.specs.declared.packet.Packet.TheVariants.{Flow, NotIpv4, BadHeader}
use Rattle.fib_rounds_turns.specs.Routers.{Router, new_router}
use Rattle.fib_rounds_turns.specs.Turns.{turn_of, asks}
use Rattle.fib_rounds.specs.declared.summary.Summary.{Summary}
use Rattle.fib_rounds.specs.Stages.{Round, first_round, opened_by}
use Rattle.fib_rounds.specs.Frozen.{by_asked}
use Rattle.fib_rounds.specs.Summaries.{summary_of}

-- a round that closed: whether it had no line, the tables at its opening, and its packets
pub record Closed : Type 0 where
  pub quiet : Bool
  pub tables : Tables
  pub taken : List Packet

abbrev pub closed : Bool → Round → Tables → Closed
closed quiet o S = record { quiet = quiet; tables = S; taken = o.taken }

-- the rounds that close from line n on, while one is open that had a line or none
unfoldable pub closed_from : Capture → ℕ → Bool → Round → Tables → Router → List (List ℕ) → List Closed
closed_from packets n quiet o S r [] = closed quiet o S ∷ []
closed_from packets n quiet o S r (line ∷ lines) = by_asked (asks r line)
    (closed_from packets (n + 1) false o S (turn_of n r line).0 lines)
    (λ k. closed quiet o S ∷ closed_from packets (n + 1) true (opened_by k packets.packets o r.changes) r.config.tables r lines)

-- all rounds of a script over a capture, with that room for objects
abbrev pub rounds_of : ℕ → List (List ℕ) → Capture → List Closed
rounds_of room script packets = closed_from packets 1 true first_round fresh (new_router room) script

-- the addresses and hashes of the flows among packets
abbrev pub flows_in : List Packet → List (ℕ × ℕ)
flows_in [] = []
flows_in (NotIpv4 ∷ packets) = flows_in packets
flows_in (BadHeader ∷ packets) = flows_in packets
flows_in (Flow a h ∷ packets) = (a, h) ∷ flows_in packets

-- what resolution over these tables gives of the flows
abbrev pub ends_over : Tables → List Packet → List End
ends_over S packets = map (λ flow. resolve S flow.0 flow.1) (flows_in packets)

-- the rounds that had no line
abbrev pub quiet_ones : List Closed → List Closed
quiet_ones rounds = filter (λ c. c.quiet) rounds

-- the ends of their flows, over the tables at their opening
abbrev pub quiet_ends : List Closed → List End
quiet_ends rounds = flat_map (λ c. ends_over c.tables c.taken) (quiet_ones rounds)

-- how many packets rounds took
abbrev pub packets_in : List Closed → ℕ
packets_in rounds = sum_by (λ c. length c.taken) rounds

abbrev pub is_drop : End → Bool
is_drop ends.Drop = true
is_drop other = false

abbrev pub is_receive : End → Bool
is_receive ends.Receive = true
is_receive other = false

abbrev pub is_glean : End → Bool
is_glean (ends.Glean i) = true
is_glean other = false

abbrev pub is_adjacency : End → Bool
is_adjacency (ends.Hop i a (Some mac)) = true
is_adjacency other = false

abbrev pub is_incomplete : End → Bool
is_incomplete (ends.Hop i a None) = true
is_incomplete other = false

-- the five counts of ends together
abbrev pub all_ends : Summary → ℕ
all_ends s = s.drops + s.receives + s.gleans + s.adjs + s.incompletes

-- The counts are those of these rounds: all packets that they took, those of the rounds without a line, and the flows among these by
-- what resolution gives of them. Each such flow is in one of the five.
pub record AreCounts (rounds : List Closed) (s : Summary) : Type 0 where
  pub packets : s.packets ≡ packets_in rounds
  pub quiet : s.quiet ≡ packets_in (quiet_ones rounds)
  pub drops : s.drops ≡ count_by is_drop (quiet_ends rounds)
  pub receives : s.receives ≡ count_by is_receive (quiet_ends rounds)
  pub gleans : s.gleans ≡ count_by is_glean (quiet_ends rounds)
  pub adjs : s.adjs ≡ count_by is_adjacency (quiet_ends rounds)
  pub incompletes : s.incompletes ≡ count_by is_incomplete (quiet_ends rounds)
  pub all : all_ends s ≡ length (quiet_ends rounds)

abbrev pub CountsAreOfQuietFlows : Type 0
CountsAreOfQuietFlows =
    (room : ℕ) (script : List (List ℕ)) (packets : Capture) → AreCounts (rounds_of room script packets) (summary_of room script packets)

abbrev pub IsFlow : Packet → Type 0
IsFlow NotIpv4 = ⊥
IsFlow BadHeader = ⊥
IsFlow (Flow a h) = Unit {0}

-- where all packets are flows, the five add up to the quiet packets
abbrev pub FlowsAddUp : Type 0
FlowsAddUp = (room : ℕ) (script : List (List ℕ)) (packets : Capture) → AllByRecursion IsFlow packets.packets
    → let s = summary_of room script packets in all_ends s ≡ s.quiet
