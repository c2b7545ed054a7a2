-- A run between two lines, and the round that is open.
use Rattle.std.specs.Prelude.{ℕ, ◌≡◌, ◌+◌, ◌==◌, ◌++◌, ◌∷◌, [], List, Some, if◌then◌else◌, length, slice_get, take, drop}
use Rattle.fib_resolve.specs.Tables.{fresh}
use Rattle.fib_resolve.specs.declared.types.Tables.{Tables}
use Rattle.fib_capture.specs.declared.packet.Packet.{Packet}
use Rattle.fib_rounds_turns.specs.Routers.{Router, new_router}
use Rattle.fib_rounds_turns.specs.Turns.{turn_of}

-- the router between two lines, and all tables so far: their place is the number of their version
pub record Stage : Type 0 where
  pub router : Router
  pub history : List Tables

-- the history has the tables of each version, and ends with the tables as they are
pub record IsHistory (at : Stage) : Type 0 where
  pub count : length at.history ≡ at.router.changes + 1
  pub newest : slice_get at.history at.router.changes ≡ Some at.router.config.tables

-- before the first line, with that room for objects
abbrev pub start : ℕ → Stage
start room = record { router = new_router room; history = fresh ∷ [] }

-- the history grows where a change was accepted
abbrev pub grown : List Tables → Router → Router → List Tables
grown H before after = if after.changes == before.changes then H else H ++ after.config.tables ∷ []

-- after line n
abbrev pub after_line : ℕ → Stage → List ℕ → Stage
after_line n at line = record {
  router = (turn_of n at.router line).0;
  history = grown at.history at.router (turn_of n at.router line).0;
}

-- a round: the version at which it opened, the number of its first packet, and its packets
pub record Round : Type 0 where
  pub opened : ℕ
  pub first : ℕ
  pub taken : List Packet

-- a script begins with a round of no packets
abbrev pub first_round : Round
first_round = record { opened = 0; first = 0; taken = [] }

-- the number of the next round's first packet
abbrev pub next_packet : Round → ℕ
next_packet o = o.first + length o.taken

-- the next round, which asks for k packets: it takes the capture's next k, or those that are left
abbrev pub opened_by : ℕ → List Packet → Round → ℕ → Round
opened_by k packets o version = record { opened = version; first = next_packet o; taken = take k (drop (next_packet o) packets) }
