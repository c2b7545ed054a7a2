-- What the counter prints: one function of the commands and of the capture.
use Rattle.std.specs.Prelude.{ℕ, zero, suc, ◌≡◌, ◌+◌, ◌-◌, ◌/◌, ◌==◌, ◌++◌, ◌∷◌, [], List, Some, nat_lt, codes, decimal, if◌then◌else◌}
use Rattle.std.specs.List.{count_by}
use Rattle.fib_resolve.specs.declared.types.Tables.{Tables}
use Rattle.fib_base_lines.specs.Lines.{lines_of}
use Rattle.fib_capture.specs.Captures.{Capture}
use Rattle.fib_capture.specs.declared.packet.Packet.{Packet}
use Rattle.fib_words.specs.Words.{files}
use Rattle.fib_print.specs.Ends.{name_of}
use Rattle.fib_rounds_turns.specs.Routers.{Router, new_router}
use Rattle.fib_rounds_turns.specs.Turns.{Turn, change_turn_of}
use Rattle.fib_counts.specs.Counts.{word_of}
use Rattle.fib_rounds.specs.Closed.{ends_over}
use Rattle.fib_rounds.specs.Packets.{last_text}
use Rattle.fib_run.specs.Files.{Holds, Wanted, IsCommands, IsCapture}

-- this text, and then what is printed later
abbrev pub said_before : List ℕ → Turn → Turn
said_before text later = (later.0, text ++ later.1)

-- what line n does: a change is made or refused, a line that is none of the grammar is refused as such, and any other that does something as not counted
abbrev pub count_turn : ℕ → Router → List ℕ → Turn
count_turn n r line = change_turn_of (codes "not counted") n r line

-- the router after all lines, which are numbered from n, and what they print
abbrev pub lines_turn : ℕ → Router → List (List ℕ) → Turn
lines_turn n r [] = (r, [])
lines_turn n r (line ∷ lines) = said_before (count_turn n r line).1 (lines_turn (n + 1) (count_turn n r line).0 lines)

-- how many flows among the packets end, by resolution over these tables, as the word of that number counts
unfoldable pub class_count : Tables → List Packet → ℕ → ℕ
class_count S packets w = count_by (λ end. word_of end == w) (ends_over S packets)

-- the kind of ends that a word counts, with the name of their interface
unfoldable pub class_text : Tables → ℕ → List ℕ
class_text S w =
    if w == 0 then codes "drop "
    else (if w == 1 then codes "receive "
    else (if nat_lt w 258 then codes "glean " ++ name_of S (w - 2) ++ codes " "
    else (if nat_lt w 514 then codes "adj " ++ name_of S (w - 258) ++ codes " "
    else codes "incomplete " ++ name_of S (w - 514) ++ codes " ")))

-- a total that isn't 0 has a line
unfoldable pub total_line : Tables → ℕ → ℕ → List ℕ
total_line S w n = if n == 0 then [] else class_text S w ++ decimal n ++ codes "\n"

-- so many words from w on, each with its total
abbrev pub totals_text : Tables → (ℕ → ℕ) → ℕ → ℕ → List ℕ
totals_text S total w zero = []
totals_text S total w (suc more) = total_line S w (total w) ++ totals_text S total (w + 1) more

-- all words
unfoldable pub all_totals : Tables → (ℕ → ℕ) → List ℕ
all_totals S total = totals_text S total 0 770

-- after all lines: the totals of the capture's flows over the tables as they are then, and the line on a cut packet
abbrev pub counts_text : Tables → Capture → List ℕ
counts_text S packets = all_totals S (class_count S packets.packets) ++ last_text packets.cut

-- the whole output of a script over a capture, with that room for objects
unfoldable pub count_output : ℕ → List (List ℕ) → Capture → List ℕ
count_output room script packets =
    let lines = lines_turn 1 (new_router room) script in
    lines.1 ++ counts_text lines.0.config.tables packets

-- The output is that of the files that the words name, which hold what the shelf tells.
abbrev pub CountsOf : Holds → Wanted → List ℕ → Type 0
CountsOf holds (Some (s, files commands capture)) out =
    (file : List ℕ) × (packets : Capture) × IsCommands (holds commands) file × IsCapture holds capture packets
    × (out ≡ count_output (s.objects / 2) (lines_of file) packets)
CountsOf holds other out = ⊥
