-- What a run sends: its text and its frames.
use Rattle.std.specs.Prelude.{ℕ, ◌≡◌, ◌/◌, ◌++◌, [], List, Option, Some, None, Ok, is_some, Bool}
use Rattle.fib_outside.specs.Outside.{Appends}
use Rattle.fib_base_lines.specs.Lines.{lines_of}
use Rattle.fib_core_results.specs.declared.record.Record.{Record}
use Rattle.fib_capture.specs.Captures.{Capture}
use Rattle.fib_capture.specs.Spans.{Span, spans_of}
use Rattle.fib_worker_crew.specs.Results.{numbered}
use Rattle.fib_words.specs.Words.{soak, files, asked}
use Rattle.fib_rounds.specs.Output.{OutputWith}
use Rattle.fib_rounds.specs.Writes.{AppendsSome}
use Rattle.fib_run.specs.Files.{Holds, Wanted, IsCommands, IsRead, no_packets}
use Rattle.fib_frames.specs.Frames.{expired_text, frame_file}

-- what the words ask for: accepted words of fib_tool without a seed
abbrev pub seedless : Wanted → Wanted
seedless None = None
seedless (Some (s, soak seed)) = None
seedless (Some (s, files commands capture)) = Some (s, files commands capture)

abbrev pub wanted : List (List ℕ) → Wanted
wanted words = seedless (asked words)

abbrev pub accepts : List (List ℕ) → Bool
accepts words = is_some (wanted words)

-- The bytes of the capture's file, its packets, and where they stand among the bytes. Without a file there is no byte and no packet.
abbrev pub IsSeen : Holds → Option (List ℕ) → List ℕ → Capture → List Span → Type 0
IsSeen holds None bytes packets spans = (bytes ≡ []) × (packets ≡ no_packets) × (spans ≡ [])
IsSeen holds (Some name) bytes packets spans = IsRead (holds name) (Ok packets) bytes × (spans_of bytes ≡ Ok spans)

-- What a script may print over a capture, then a line for each of its flows that would leave but has no hop left; and the capture file of the flows that
-- leave, by the same results.
abbrev pub Shows : ℕ → List (List ℕ) → List ℕ → Capture → List Span → List ℕ → List ℕ → Type 0
Shows room script bytes packets spans text frames =
    (results : List Record) × (out : List ℕ) × OutputWith room script packets results out
    × (text ≡ out ++ expired_text bytes spans (numbered 0 packets.packets results))
    × (frames ≡ frame_file bytes spans (numbered 0 packets.packets results))

-- What may be sent, by what the words ask for. Half of the objects is the room for the tables.
abbrev pub MaySend : Holds → Wanted → List ℕ → List ℕ → Type 0
MaySend holds None text frames = ⊥
MaySend holds (Some (s, soak seed)) text frames = ⊥
MaySend holds (Some (s, files commands capture)) text frames =
    (file bytes : List ℕ) × (packets : Capture) × (spans : List Span)
    × IsCommands (holds commands) file × IsSeen holds capture bytes packets spans
    × Shows (s.objects / 2) (lines_of file) bytes packets spans text frames

-- the two streams grew by such a pair
abbrev pub GainsBoth : (List ℕ → List ℕ → Type 0) → Option (List ℕ) → Option (List ℕ) → Option (List ℕ) → Option (List ℕ) → Type 0
GainsBoth P old new before after = (text frames : List ℕ) × P text frames × Appends old new text × Appends before after frames

-- they grew by first parts of one such pair, all or some or nothing
abbrev pub GainsParts : (List ℕ → List ℕ → Type 0) → Option (List ℕ) → Option (List ℕ) → Option (List ℕ) → Option (List ℕ) → Type 0
GainsParts P old new before after = (text frames : List ℕ) × P text frames × AppendsSome old new text × AppendsSome before after frames

-- neither did
abbrev pub NoneGrew : Option (List ℕ) → Option (List ℕ) → Option (List ℕ) → Option (List ℕ) → Type 0
NoneGrew old new before after = (new ≡ old) × (after ≡ before)
