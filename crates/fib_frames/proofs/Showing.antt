-- A text and a frame file of one set of results.
use Rattle.std.proofs.Common.{◌≡◌, ◌++◌, [], ℕ, List, Option, Some, None, Result, Ok, Err, OnOk, OnErr, Contains, lit<, refl, ap, sym, ◌∙◌, subst}
use Rattle.std.specs.Prelude.{◌/◌, IfOk}
use Rattle.fib_outside.specs.Outside.{Appends}
use Rattle.fib_core.specs.declared.settings.Settings.{Settings}
use Rattle.fib_base_lines.specs.Lines.{lines_of}
use Rattle.fib_capture.specs.Captures.{Capture}
use Rattle.fib_capture.specs.Spans.{Span, spans_of}
use Rattle.fib_rounds_taps.specs.Taps.{Pairs}
use Rattle.fib_worker_crew.specs.Results.{numbered}
use Rattle.fib_rounds.specs.Runs.{GainsPart, GainsTaken}
use Rattle.fib_rounds.specs.Writes.{AppendsSome}
use Rattle.fib_rounds.proofs.Moves.{Appends-more, Appends-none}
use Rattle.fib_rounds.proofs.Running.{some_of_both, some_of_first}
use Rattle.fib_words.specs.Words.{soak, files}
use Rattle.fib_run.specs.Files.{Holds, IsCommands, IsRead, MayBeLong, Wanted, statuses}
use Rattle.fib_run.specs.declared.files.Fault.{Fault}
use Rattle.fib_frames.specs.declared.seen.Seen.{Seen}
use Rattle.fib_capture.proofs.Inside.{spans_lie}
use Rattle.fib_frames.specs.Frames.{AreInside, expired_text, frame_file}
use Rattle.fib_frames.specs.Sends.{GainsBoth, GainsParts, IsSeen, MaySend, Shows}

module _ (room : ℕ) (script : List (List ℕ)) (bytes : List ℕ) (packets : Capture) (spans : List Span) where
  abbrev Pair : List ℕ → List ℕ → Type 0
  Pair = Shows room script bytes packets spans

  -- the results that a tap kept, which was empty
  kept_are : (tap list kept : Pairs) (a b : Option (List ℕ)) → (g : GainsTaken room script packets a b (Some tap) (Some list)) → tap ≡ [] → kept ≡ list → kept ≡ numbered 0 packets.packets g.0
  kept_are tap list kept a b g none is = is ∙ (g.4 ∙ ap (λ (t : Pairs). t ++ numbered 0 packets.packets g.0) none)

  -- all was written
  pub shows_both : {A E : Type 0} (r : Result A E) (tap list kept : Pairs) (a b c d e : Option (List ℕ)) → GainsTaken room script packets a b (Some tap) (Some list) → tap ≡ [] → kept ≡ list
      → OnOk r (Appends b c (expired_text bytes spans kept)) → OnOk r (Appends d e (frame_file bytes spans kept)) → OnOk r (GainsBoth Pair a c d e)
  shows_both (Err x) tap list kept a b c d e g none is lines sent = tt
  shows_both (Ok x) tap list kept a b c d e g none is lines sent =
      let pairs = numbered 0 packets.packets g.0 in
      let same : kept ≡ pairs = kept_are tap list kept a b g none is in
      let late = subst (λ (ps : Pairs). Appends b c (expired_text bytes spans ps)) same lines in (
        g.1 ++ expired_text bytes spans pairs,
        frame_file bytes spans pairs,
        (g.0, g.1, g.2, refl, refl),
        Appends-more a b c g.1 (expired_text bytes spans pairs) g.3 late,
        subst (λ (ps : Pairs). Appends d e (frame_file bytes spans ps)) same sent,
      )

  -- a fault came after the run
  pub shows_parts : {A E : Type 0} (r : Result A E) (tap list kept : Pairs) (a b c d e : Option (List ℕ)) → GainsTaken room script packets a b (Some tap) (Some list) → tap ≡ [] → kept ≡ list
      → OnErr r (AppendsSome b c (expired_text bytes spans kept)) → OnErr r (AppendsSome d e (frame_file bytes spans kept)) → OnErr r (GainsParts Pair a c d e)
  shows_parts (Ok x) tap list kept a b c d e g none is lines sent = tt
  shows_parts (Err x) tap list kept a b c d e g none is lines sent =
      let pairs = numbered 0 packets.packets g.0 in
      let same : kept ≡ pairs = kept_are tap list kept a b g none is in
      let late = subst (λ (ps : Pairs). AppendsSome b c (expired_text bytes spans ps)) same lines in (
        g.1 ++ expired_text bytes spans pairs,
        frame_file bytes spans pairs,
        (g.0, g.1, g.2, refl, refl),
        some_of_both a b c g.1 (expired_text bytes spans pairs) g.3 late,
        subst (λ (ps : Pairs). AppendsSome d e (frame_file bytes spans ps)) same sent,
      )

  -- a fault came within it
  pub shows_stops : (a b d : Option (List ℕ)) (old new : Option Pairs) → GainsPart room script packets a b old new → GainsParts Pair a b d d
  shows_stops a b d old new g =
      let pairs = numbered 0 packets.packets g.0 in (
        g.1 ++ expired_text bytes spans pairs,
        frame_file bytes spans pairs,
        (g.0, g.1, g.2, refl, refl),
        some_of_first a b g.1 (expired_text bytes spans pairs) g.3,
        (0, Appends-none d),
      )

-- what was seen and refused is the same by two shelves that hold the same
module _ (holds held : Holds) (same : (name : List ℕ) → held name ≡ holds name) where
  pub seen_same : (name : Option (List ℕ)) (bytes : List ℕ) (packets : Capture) (spans : List Span) → IsSeen held name bytes packets spans → IsSeen holds name bytes packets spans
  seen_same None bytes packets spans s = s
  seen_same (Some name) bytes packets spans s = (subst (λ t. IsRead t (Ok packets) bytes) (same name) s.0, s.1)

-- a text and a file of a script that was read over a capture that was seen may be sent
module _ (holds : Holds) (s : Settings) (commands : List ℕ) (capture : Option (List ℕ)) (file bytes : List ℕ) (packets : Capture) (spans : List Span) where
  may_send : IsCommands (holds commands) file → IsSeen holds capture bytes packets spans → (text frames : List ℕ)
      → Shows (s.objects / 2) (lines_of file) bytes packets spans text frames → MaySend holds (Some (s, files commands capture)) text frames
  may_send told seen text frames shows = (file, bytes, packets, spans, told, seen, shows)

  pub sends_both : (script : List (List ℕ)) (a b c d : Option (List ℕ)) → script ≡ lines_of file → IsCommands (holds commands) file → IsSeen holds capture bytes packets spans
      → GainsBoth (Shows (s.objects / 2) script bytes packets spans) a b c d → GainsBoth (MaySend holds (Some (s, files commands capture))) a b c d
  sends_both script a b c d is told seen g =
      (g.0, g.1, may_send told seen g.0 g.1 (subst (λ ls. Shows (s.objects / 2) ls bytes packets spans g.0 g.1) is g.2), g.3, g.4)

  pub sends_parts : (script : List (List ℕ)) (a b c d : Option (List ℕ)) → script ≡ lines_of file → IsCommands (holds commands) file → IsSeen holds capture bytes packets spans
      → GainsParts (Shows (s.objects / 2) script bytes packets spans) a b c d → GainsParts (MaySend holds (Some (s, files commands capture))) a b c d
  sends_parts script a b c d is told seen g =
      (g.0, g.1, may_send told seen g.0 g.1 (subst (λ ls. Shows (s.objects / 2) ls bytes packets spans g.0 g.1) is g.2), g.3, g.4)

-- the spans of what was seen lie among its bytes
pub inside_of : (r : Result Seen Fault) (bytes : List ℕ) → IfOk r (λ s. s.bytes.items ≡ bytes) → IfOk r (λ s. spans_of bytes ≡ Ok s.spans) → IfOk r (λ s. AreInside s.bytes.items s.spans)
inside_of (Err e) bytes same spans = tt
inside_of (Ok s) bytes same spans = subst (λ b. AreInside b s.spans) (sym same) (spans_lie bytes s.spans spans)

-- ---- which statuses may come

pub status_4 : (holds : Holds) (w : Wanted) (text frames : List ℕ) → MaySend holds w text frames → Contains (statuses w) 4
status_4 holds None text frames got = absurd got
status_4 holds (Some (s, soak seed)) text frames got = absurd got
status_4 holds (Some (s, files commands None)) text frames got = (2, lit< tt, refl)
status_4 holds (Some (s, files commands (Some name))) text frames got = (3, lit< tt, refl)

pub status_7 : (holds : Holds) (w : Wanted) → MayBeLong holds w → Contains (statuses w) 7
status_7 holds None got = absurd got
status_7 holds (Some (s, soak seed)) got = absurd got
status_7 holds (Some (s, files commands None)) got = (4, lit< tt, refl)
status_7 holds (Some (s, files commands (Some name))) got = (6, lit< tt, refl)
