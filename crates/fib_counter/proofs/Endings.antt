-- How counts end.
use Rattle.std.proofs.Common.{◌≡◌, ◌/◌, ℕ, List, Option, Some, None, Contains, take, drop, refl, ◌∙◌, lit<, ap, subst, Ok, take-append-drop}
use Rattle.fib_base_lines.specs.Lines.{lines_of}
use Rattle.fib_capture.specs.Captures.{Capture}
use Rattle.fib_core.specs.declared.settings.Settings.{Settings}
use Rattle.fib_words.specs.Words.{soak, files}
use Rattle.fib_rounds.specs.Writes.{AppendsSome, Gains}
use Rattle.fib_run.specs.Files.{Holds, IsCapture, IsCommands, IsRead, Wanted, statuses}
use Rattle.fib_run.specs.Output.{FirstPart}
use Rattle.fib_counter.specs.CountOutput.{CountsOf, count_output}

-- the first bytes of a count are a first part of it; between the two files the shelf tells the same
pub first_counts : (holds now : Holds) (s : Settings) (commands name : List ℕ) (script : List (List ℕ)) (packets : Capture) (text : List ℕ) (before after : Option (List ℕ))
    → ((file : List ℕ) → now file ≡ holds file) → (file : List ℕ) × IsCommands (holds commands) file × (script ≡ lines_of file) → IsCapture now (Some name) packets
    → text ≡ count_output (s.objects / 2) script packets → AppendsSome before after text → Gains (FirstPart (CountsOf holds (Some (s, files commands (Some name))))) before after
first_counts holds now s commands name script packets text before after same file capture is told =
    let read : IsCapture holds (Some name) packets = (capture.0, subst (λ held. IsRead held (Ok packets) capture.0) (same name) capture.1) in
    (take told.0 text, (drop told.0 text, (file.0, packets, file.1, read, take-append-drop told.0 text ∙ (is ∙ ap (λ ls. count_output (s.objects / 2) ls packets) file.2))), told.1)

-- a write may fail where there is something to write
pub status_4 : (holds : Holds) (w : Wanted) (text : List ℕ) → FirstPart (CountsOf holds w) text → Contains (statuses w) 4
status_4 holds None text got = absurd got.1
status_4 holds (Some (s, soak seed)) text got = absurd got.1
status_4 holds (Some (s, files commands None)) text got = (2, lit< tt, refl)
status_4 holds (Some (s, files commands (Some name))) text got = (3, lit< tt, refl)
