-- The rounds of a run, where it ends, and what it leaves of the control plane that it was handed.
use Rattle.std.specs.Prelude.{◌≡◌, ℕ, ◌+◌, ◌-◌, ◌^◌, ◌<◌, ◌++◌, ◌∷◌, [], List, Option, length, slice_index}
use Rattle.fib_outside.specs.Outside.{Appends}
use Rattle.fib_resolve.specs.Tables.{fresh}
use Rattle.fib_core_results.specs.Trails.{version_at}
use Rattle.fib_core_results.specs.declared.record.Record.{Record}
use Rattle.fib_core.specs.Trails.{Trail}
use Rattle.fib_core_lawful.specs.State.{left_of}
use Rattle.fib_control.specs.Controls.{Control}
use Rattle.fib_worker_crew.specs.Results.{numbered}
use Rattle.fib_rounds_homing.specs.Homes.{HasGathered, NoneOut}
use Rattle.fib_rounds_taps.specs.Taps.{Pairs, Takes, TakesSome}
use Rattle.fib_rounds_turns.specs.Routers.{applied_in, history_in}
use Rattle.fib_rounds.specs.Output.{OutputWith}
use Rattle.fib_rounds.specs.Writes.{AppendsSome}
use Rattle.fib_capture.specs.Captures.{Capture}
use Rattle.fib_rounds_turns.specs.Turns.{asks}
use Rattle.fib_rounds.specs.Stages.{Stage, start, after_line, Round, first_round, opened_by}
use Rattle.fib_rounds.specs.Frozen.{by_asked}

-- after lines that are numbered from n
abbrev pub stage_after : ℕ → Stage → List (List ℕ) → Stage
stage_after n at [] = at
stage_after n at (line ∷ lines) = stage_after (n + 1) (after_line n at line) lines

-- the rounds from line n on, the first of which is open
abbrev pub rounds_from : Capture → ℕ → Round → Stage → List (List ℕ) → List Round
rounds_from packets n o at [] = o ∷ []
rounds_from packets n o at (line ∷ lines) = by_asked (asks at.router line)
    (rounds_from packets (n + 1) o (after_line n at line) lines)
    (λ k. o ∷ rounds_from packets (n + 1) (opened_by k packets.packets o at.router.changes) at lines)

abbrev pub rounds_of : ℕ → List (List ℕ) → Capture → List Round
rounds_of room script packets = rounds_from packets 1 first_round (start room) script

-- What rounds brought home of so many workers, one after the other, each with its claims counted from those gathered before.
abbrev pub Brought : ℕ → ℕ → List Round → List Record → List ℕ → List Trail → Type 0
Brought workers base [] results claims trails = (results ≡ []) × (claims ≡ []) × (trails ≡ [])
Brought workers base (o ∷ rounds) results claims trails =
    (mine later : List Record) × (here there : List ℕ) × (out rest : List Trail)
    × HasGathered workers base o.taken mine here out
    × Brought workers (base + length here) rounds later there rest
    × (results ≡ mine ++ later) × (claims ≡ here ++ there) × (trails ≡ out ++ rest)

-- The run printed an output with these results. They are those of the trails that its rounds brought home, by frames and in the order of the claims; the
-- history is that of the accepted changes, and its last version is settled.
pub record HasRunOn (workers room : ℕ) (script : List (List ℕ)) (packets : Capture) (c : Control) (results : List Record)
    (out : List ℕ) : Type 0 where
  pub output : OutputWith room script packets results out
  pub brought : Brought workers 0 (rounds_of room script packets) results c.plane.board.gathered c.plane.board.trails
  pub history : history_in c ≡ (stage_after 1 (start room) script).history
  pub settled : c.plane.board.log.version.settled ≡ applied_in c

-- The sink gained the output of a run that leaves the control plane so, and the tap all its results, each with its packet's number.
abbrev pub GainsRun : ℕ → ℕ → List (List ℕ) → Capture → Control → Option (List ℕ) → Option (List ℕ) → Option Pairs → Option Pairs → Type 0
GainsRun workers room script packets c before after old new =
    (results : List Record) × (out : List ℕ) × HasRunOn workers room script packets c results out
    × Appends before after out × Takes old new (numbered 0 packets.packets results)

-- The sink gained what a script may print over a capture, with that room for objects, and the tap the results that it prints.
abbrev pub GainsTaken : ℕ → List (List ℕ) → Capture → Option (List ℕ) → Option (List ℕ) → Option Pairs → Option Pairs → Type 0
GainsTaken room script packets before after old new =
    (results : List Record) × (out : List ℕ) × OutputWith room script packets results out
    × Appends before after out × Takes old new (numbered 0 packets.packets results)

-- The sink gained a first part of what it may print, and the tap a first part of the results of the same output.
abbrev pub GainsPart : ℕ → List (List ℕ) → Capture → Option (List ℕ) → Option (List ℕ) → Option Pairs → Option Pairs → Type 0
GainsPart room script packets before after old new =
    (results : List Record) × (out : List ℕ) × OutputWith room script packets results out
    × AppendsSome before after out × TakesSome old new (numbered 0 packets.packets results)

-- a control plane before its first change, with that room and so many workers, who never left it
pub record IsNew (workers room : ℕ) (c : Control) : Type 0 where
  pub setup : c.setup ≡ record { tables = fresh; room = room }
  pub all : c.plane.board.workers ≡ workers
  pub history : history_in c ≡ fresh ∷ []
  pub version : c.plane.board.log.version ≡ version_at 0
  pub none : NoneOut c.plane.board
  pub trails : c.plane.board.trails ≡ []
  pub gathered : c.plane.board.gathered ≡ []
  pub left : (n : ℕ) → n < workers → left_of (slice_index c.plane.board.rests n) ≡ 2 ^ 63 - 1
