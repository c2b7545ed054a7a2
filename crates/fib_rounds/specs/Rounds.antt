-- What a part of a run leaves to be printed and counted.
use Rattle.std.specs.Prelude.{ℕ, ◌≡◌, ◌≤◌, ◌==◌, ◌+◌, ◌-◌, ◌++◌, length, min, ◌∷◌, [], List, Bool, true, false, Option, Some, None, if◌then◌else◌, drop}
use Rattle.fib_resolve.specs.declared.types.Tables.{Tables}
use Rattle.fib_core_results.specs.declared.record.Record.{Record}
use Rattle.fib_capture.specs.Captures.{Capture}
use Rattle.fib_capture.specs.declared.packet.Packet.{Packet}
use Rattle.fib_control.specs.Controls.{Control}
use Rattle.fib_rounds_turns.specs.Routers.{Progress, Router, history_in, router_of}
use Rattle.fib_rounds_turns.specs.Turns.{asks, end_turn}
use Rattle.fib_rounds.specs.declared.opening.Opening.{Opening}
use Rattle.fib_rounds.specs.declared.summary.Summary.{Summary}
use Rattle.fib_rounds.specs.Stages.{Stage, Round}
use Rattle.fib_worker_crew.specs.Packets.{span}
use Rattle.fib_rounds.specs.Packets.{last_text}
use Rattle.fib_rounds.specs.Output.{Prints}
use Rattle.fib_rounds.specs.Summaries.{counted, with_router}
use Rattle.fib_rounds.specs.Runs.{stage_after, rounds_from}

-- where a run stands: the router, and the history
abbrev pub stage_of : Control → Progress → Stage
stage_of c p = record { router = router_of c p; history = history_in c }

-- the lines that are left begin with one that asks for so many packets, or none is left
abbrev pub StopsAt : List (List ℕ) → Router → Option ℕ → Type 0
StopsAt lines r None = lines ≡ []
StopsAt lines r (Some k) = (line : List ℕ) × (rest : List (List ℕ)) × (lines ≡ line ∷ rest) × (asks r line ≡ Some k)

-- how many lines were run before they stopped at that place: the one that asks for packets too
abbrev pub lines_run : ℕ → Option ℕ → ℕ
lines_run place None = place
lines_run place (Some k) = place + 1

-- whether a round had no line so far
abbrev pub is_still_quiet : Bool → ℕ → ℕ → Bool
is_still_quiet quiet from to = if to == from then quiet else false

-- Between two places of a script, none of whose lines asks for packets: what is printed from the one is what the lines say and then what is printed
-- from the other; and rounds, stage and counts are the same.
pub record GoesOn (script : List (List ℕ)) (from : ℕ) (before : Stage) (old : List ℕ) (to : ℕ) (after : Stage) (new : List ℕ) : Type 0 where
  pub said : List ℕ
  pub text : new ≡ old ++ said
  pub prints : (packets : Capture) (o : Round) (results : List Record) (rest : List ℕ)
      → Prints packets (to + 1) o after (drop to script) results rest
      → Prints packets (from + 1) o before (drop from script) results (said ++ rest)
  pub rounds : (packets : Capture) (o : Round)
      → rounds_from packets (to + 1) o after (drop to script) ≡ rounds_from packets (from + 1) o before (drop from script)
  pub last : stage_after (to + 1) after (drop to script) ≡ stage_after (from + 1) before (drop from script)
  pub counts : (packets : Capture) (o : Round) (S : Tables) (quiet : Bool) (c : Summary)
      → counted packets (to + 1) (is_still_quiet quiet from to) o S after.router (drop to script) c
      ≡ counted packets (from + 1) quiet o S before.router (drop from script) c
  pub quiet : to ≡ from → after ≡ before

-- the round that opens here
abbrev pub round_at : List Packet → ℕ → Opening → Round
round_at packets version o = record { opened = version; first = o.first; taken = span packets o.first o.to }

-- what may be printed from the opening of a round on, or after the last round
abbrev pub PrintsFrom : Capture → List (List ℕ) → Stage → Option Opening → List Record → List ℕ → Type 0
PrintsFrom packets script at None results out = (results ≡ []) × (out ≡ last_text packets.cut)
PrintsFrom packets script at (Some o) results out =
    Prints packets (o.place + 1) (round_at packets.packets at.router.changes o) at (drop o.place script) results out

abbrev pub rounds_at : Capture → List (List ℕ) → Stage → Option Opening → List Round
rounds_at packets script at None = []
rounds_at packets script at (Some o) =
    rounds_from packets (o.place + 1) (round_at packets.packets at.router.changes o) at (drop o.place script)

-- the history at the run's end
abbrev pub history_at : List (List ℕ) → Stage → Option Opening → List Tables
history_at script at None = at.history
history_at script at (Some o) = (stage_after (o.place + 1) at (drop o.place script)).history

-- the counts from the opening of a round on, or after the last round
abbrev pub counts_from : Capture → List (List ℕ) → Stage → Option Opening → Summary → Summary
counts_from packets script at None c = with_router c at.router
counts_from packets script at (Some o) c =
    counted packets (o.place + 1) true (round_at packets.packets at.router.changes o) at.router.config.tables at.router (drop o.place script) c

-- a round may open there: its lines and its packets are those of the script and of the capture
pub record MayOpen (script : List (List ℕ)) (packets : List Packet) (o : Opening) : Type 0 where
  pub place : o.place ≤ length script
  pub order : o.first ≤ o.to
  pub inside : o.to ≤ length packets

-- the round that a line at that place opens, after a round whose packets end before that one; None where no line asks for packets
abbrev pub next_opening : List Packet → ℕ → ℕ → Option ℕ → Option Opening
next_opening packets place to None = None
next_opening packets place to (Some k) = Some (record { place = place + 1; first = to; to = to + min k (length packets - to) })

-- the router at the close of a round: at the script's end a batch that is left is refused
abbrev pub closed_router : Router → Option ℕ → Router
closed_router r None = (end_turn r).0
closed_router r (Some k) = r

abbrev pub closed_text : Router → Option ℕ → List ℕ
closed_text r None = (end_turn r).1
closed_text r (Some k) = []

-- where a run stands once a round is closed, which one opens next
abbrev pub closed_by : Stage → Option Opening → Stage
closed_by at None = record { router = closed_router at.router None; history = at.history }
closed_by at (Some o) = at

-- a round was run: what it prints and with which results
pub record HasRun (script : List (List ℕ)) (packets : Capture) (before : Stage) (round : Opening) (after : Stage) (next : Option Opening)
    (results : List Record) (out : List ℕ) : Type 0 where
  pub prints : (later : List Record) (rest : List ℕ)
      → PrintsFrom packets script after next later rest → PrintsFrom packets script before (Some round) (results ++ later) (out ++ rest)
  pub rounds : rounds_at packets script before (Some round) ≡ round_at packets.packets before.router.changes round ∷ rounds_at packets script after next
  pub history : history_at script after next ≡ history_at script before (Some round)
