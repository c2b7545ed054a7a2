-- What a traced run may print: what its lines say, and for each packet its line and, where it is a flow, the loads of its pass.
use Rattle.std.specs.Prelude.{◌≡◌, ℕ, ◌++◌, ◌/◌, List, Some, None}
use Rattle.fib_base_lines.specs.Lines.{lines_of}
use Rattle.fib_capture.specs.Captures.{Capture}
use Rattle.fib_worker_crew.specs.Packets.{Matched}
use Rattle.fib_control.specs.Controls.{Control, tables_in}
use Rattle.fib_rounds_turns.specs.Routers.{applied_in, history_in}
use Rattle.fib_rounds.specs.Packets.{last_text}
use Rattle.fib_words.specs.Words.{soak, files}
use Rattle.fib_run.specs.Files.{Holds, Wanted, IsCommands, IsCapture}
use Rattle.fib_tracer.specs.declared.log.Traced.{Traced}
use Rattle.fib_tracer.specs.declared.run.Told.{Told}
use Rattle.fib_tracer.specs.Lines.{closing, lines_text, opening}
use Rattle.fib_tracer.specs.Passes.{AreTraced, IsTraced, passes_text}

-- the output with these passes, of which the flows have one each: right and steady over the tables of all versions, and of none before the tracing began
pub record TracesWith (room : ℕ) (script : List (List ℕ)) (packets : Capture) (passes : List Traced) (out : List ℕ) : Type 0 where
  pub traced : Matched (IsTraced (opening room script).router.changes (closing room script).history) packets.packets passes
  pub text : out ≡ lines_text room script ++ (passes_text (closing room script).router.config.tables 0 packets.packets passes ++ last_text packets.cut)

-- what a script may print over a capture, with that room for objects
abbrev pub TraceOutput : ℕ → List (List ℕ) → Capture → List ℕ → Type 0
TraceOutput room script packets out = (passes : List Traced) × TracesWith room script packets passes out

-- What may be printed, by what the words ask for. Half of the objects is the room for the tables.
abbrev pub MayTrace : Holds → Wanted → List ℕ → Type 0
MayTrace holds None out = ⊥
MayTrace holds (Some (s, soak seed)) out = ⊥
MayTrace holds (Some (s, files commands capture)) out =
    (file : List ℕ) × (packets : Capture) × IsCommands (holds commands) file × IsCapture holds capture packets
    × TraceOutput (s.objects / 2) (lines_of file) packets out

-- The script was run on this control plane, which has settled its last version; and its trails at home are those of the passes that are told.
pub record HasTold (room : ℕ) (script : List (List ℕ)) (packets : Capture) (c : Control) (told : Told) : Type 0 where
  pub text : told.text.items ≡ lines_text room script
  pub traced : AreTraced (opening room script).router.changes (closing room script).history packets.packets c.plane.board.trails told.passes.items
  pub tables : tables_in c ≡ (closing room script).router.config.tables
  pub history : history_in c ≡ (closing room script).history
  pub settled : c.plane.board.log.version.settled ≡ applied_in c
