-- The command line: `[--objects N] COMMANDS CAPTURE`. A word is the list of its bytes.
use Rattle.std.specs.Prelude.{ℕ, List, Bool, Option, Some, None, if◌then◌else◌, codes, is_some}
use Rattle.fib_addr.specs.Texts.{◌>>=◌}
use Rattle.clap.specs.Words.{App, Row, Text, first_of, matches_of, with_rule}
use Rattle.fib_core.specs.declared.settings.Settings.{Settings}
use Rattle.fib_words.specs.Parts.{bare_command, is_taken_by, name_rule, objects_or, option_rule}
use Rattle.fib_words.specs.Words.{Origin, files}
use Rattle.fib_tracer.specs.declared.words.Wanted.{Wanted}

-- the command: an option and two names
unfoldable pub trace_command : App
trace_command =
    with_rule (with_rule (with_rule (bare_command (codes "fib_tracer")) (option_rule (codes "objects"))) (name_rule (codes "commands")))
    (name_rule (codes "capture"))

-- one worker, and at most 64 turns after a change
abbrev pub sized : ℕ → Settings
sized objects = record { workers = 1; objects = objects; walk = 64 }

-- both files are needed
unfoldable pub wanted_by : List Row → Option (Settings × Origin)
wanted_by rows = do
  objects ← objects_or (first_of (codes "objects") rows)
  commands ← first_of (codes "commands") rows
  capture ← first_of (codes "capture") rows
  Some (sized objects, files commands (Some capture))

-- what the words ask for; nothing where they aren't accepted
unfoldable pub wanted : List Text → Option (Settings × Origin)
wanted words = if is_taken_by trace_command words then wanted_by (matches_of trace_command words) else None

-- whether the words are accepted
abbrev pub accepts : List Text → Bool
accepts words = is_some (wanted words)

-- what a value of the program says, in these words
abbrev pub wanted_in : Wanted → Settings × Origin
wanted_in w = (sized w.objects, files w.commands.now (Some w.capture.now))
